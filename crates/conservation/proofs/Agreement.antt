-- The program's replies are the tally's, call by call. Assumes nothing.
use Rattle.std.specs.Prelude.{Ok, Err}
use Prim.Native.Nat.{ℕ, ◌+◌}
use mathlib.Core.Path.{◌≡◌, refl, ap, subst, ◌∙◌}
use mathlib.Core.Logic.{◌↔◌}
use mathlib.Core.List.{List, [], ◌∷◌, ◌++◌}
use native.Mathlib.Omega.{arith}
use Rattle.model.specs.declared.Refusal.{Refusal}
use Rattle.model.specs.declared.Title.{Title}
use Rattle.model.specs.declared.Call.{Call}
use Rattle.model.specs.declared.Call.TheVariants.{Grant, Cancel}
use Rattle.model.specs.declared.Balance.{Balance}
use Rattle.model.specs.View.{View, view_of}
use Rattle.model.specs.Answers.{Answer}
use Rattle.model.proofs.Answers.{not_accepted}
use Rattle.book.specs.Reading.{Description, read, reading, opened}
use Rattle.register.specs.declared.Reply.{Reply}
use Rattle.effect.specs.Granted.{posted}
use Rattle.effect.specs.Cancelled.{without_title}
use Rattle.refusal.specs.Grant.{grant_refusal}
use Rattle.register.specs.Cancel.{cancel_refusal}
use Rattle.register.specs.Reply.{after_test, replied}
use Rattle.register.specs.Calls.{call_refusal, call_reply, after}
use Rattle.register.proofs.Staying.{not_refused}
use Rattle.register.proofs.Keeping as keeping
use Rattle.conservation.specs.Demand3.{Tally, start, tally_refusal, unless_refused}
use Rattle.conservation.specs.Replies.{Said, replies, number_for, saying, sayings, grant_counts, grants, Numbered}
use Rattle.conservation.proofs.Following.{Follows, changed, carried, replied_to, same_refusal, follows_start, follows_call}

-- What a reply says.
abbrev pub said_by : Reply → Said
said_by r = record { answer = r.answer; number = r.number }

said_by_lem : (r : Answer) (old new : Balance) (n : ℕ) → said_by (replied r old new n) ≡ saying r n
said_by_lem (Ok u) old new n = refl
said_by_lem (Err k) old new n = refl

module _ (d : Description) (b : Balance) (t : Tally) (f : Follows d b t) where
  -- An accepted call carries the tally's number.
  same_number : (c : Call) → carried b c ≡ number_for t c
  same_number (Grant x) = omega (arith, ap (λ (v : View). v.given) f.same)
  same_number (Cancel n) = refl

  pub same_saying : (c : Call) → said_by (call_reply b c) ≡ saying (tally_refusal d t c) (number_for t c)
  same_saying c =
      ap said_by (replied_to b c f.stands)
      ∙ said_by_lem (call_refusal (view_of b) c) b (changed b c) (carried b c)
      ∙ (λ i. saying (same_refusal d b t f c i) (same_number c i))

-- A balance that follows the tally gets the tally's replies.
followed : (d : Description) (b : Balance) (t : Tally) → Follows d b t → (cs : List Call) → replies b cs ≡ sayings d t cs
unfolding replies sayings
followed d b t f [] = refl
followed d b t f (c ∷ cs) = λ i.
    same_saying d b t f c i ∷ followed d (call_reply b c).balance (unless_refused (tally_refusal d t c) t c) (follows_call d b t f c) cs i

-- On every accepted book and every list of calls, the program accepts and refuses as the tally does, under the same numbers.
pub replies_agree : (s : List ℕ) (d : Description) (at : ℕ) → reading s ≡ read d at → (cs : List Call) → replies (opened s).balance cs ≡ sayings d start cs
replies_agree s d at e = followed d (opened s).balance start (follows_start s d at e)

-- A refused call returns the balance handed to it, whatever that is, and 0 as the title's number.
pub refused_keeps : (b : Balance) (c : Call) (n : Refusal) → (call_reply b c).answer ≡ Err n → ((call_reply b c).balance ≡ b) × ((call_reply b c).number ≡ 0)
refused_keeps = keeping.refused_keeps

-- An accepted grant gives one number more, and no other call does.
grant_counts_lem : (r : Answer) (b : Balance) (x : Title) (n : ℕ)
    → (replied r b (posted b x) n).balance.given ≡ b.given + grant_counts (Grant x) (replied r b (posted b x) n).answer
grant_counts_lem (Ok u) b x n = refl
grant_counts_lem (Err k) b x n = omega arith

cancel_counts : (r : Answer) (b : Balance) (m n : ℕ) → (replied r b (without_title b m) n).balance.given ≡ b.given + 0
cancel_counts (Ok u) b m n = omega arith
cancel_counts (Err k) b m n = omega arith

call_counts : (b : Balance) (c : Call) → (call_reply b c).balance.given ≡ b.given + grant_counts c (call_reply b c).answer
call_counts b (Grant x) = grant_counts_lem (after_test b (grant_refusal (view_of b) x)) b x (b.given + 1)
call_counts b (Cancel n) = cancel_counts (after_test b (cancel_refusal (view_of b) n)) b n n

calls_count : (b : Balance) (cs : List Call) → (after b cs).given ≡ b.given + grants cs (replies b cs)
unfolding after replies grants
calls_count b [] = omega arith
calls_count b (c ∷ cs) = omega (arith, calls_count (call_reply b c).balance cs, call_counts b c)

-- On every balance and every list of calls, the numbers count the grants that the program accepts; a cancellation neither gives a number nor
-- frees one.
pub numbers_count : (b : Balance) (cs : List Call) → Numbered b.given b cs
numbers_count b cs =
    record {
      last = calls_count b cs;
      next = λ x e. omega (arith, keeping.accepted_number (after b cs) (Grant x) e, calls_count b cs);
      asked = λ n e. keeping.accepted_number (after b cs) (Cancel n) e;
    }

-- On every accepted book they count them from 1.
pub numbers_count_from_1 : (s : List ℕ) (d : Description) (at : ℕ) → reading s ≡ read d at → (cs : List Call) → Numbered 0 (opened s).balance cs
numbers_count_from_1 s d at e cs =
    let b = (opened s).balance in
    subst (λ (n : ℕ). Numbered n b cs) (ap (λ (v : View). v.given) (follows_start s d at e).same) (numbers_count b cs)

-- A call after a list of calls gets the balance that the call before returned.
pub after_list : (b : Balance) (cs : List Call) (c : Call) → after b (cs ++ (c ∷ [])) ≡ (call_reply (after b cs) c).balance
unfolding after
after_list b [] c = refl
after_list b (x ∷ xs) c = after_list (call_reply b x).balance xs c

replied_exactly : (r : Answer) (old new : Balance) (n : ℕ) → ((replied r old new n).answer ≡ Ok tt) ↔ (r ≡ Ok tt)
replied_exactly (Ok u) old new n = (λ e. refl, λ e. refl)
replied_exactly (Err k) old new n =
    (λ e. absurd (not_refused k (replied (Err k) old new n) refl e), λ e. absurd (not_accepted k e))

-- On every balance a call is accepted exactly when no refusal that documents 01 and 02 list for it applies, 0 included.
pub call_accepted_exactly : (b : Balance) (c : Call) → ((call_reply b c).answer ≡ Ok tt) ↔ (after_test b (call_refusal (view_of b) c) ≡ Ok tt)
call_accepted_exactly b (Grant x) = replied_exactly (after_test b (grant_refusal (view_of b) x)) b (changed b (Grant x)) (carried b (Grant x))
call_accepted_exactly b (Cancel k) = replied_exactly (after_test b (cancel_refusal (view_of b) k)) b (changed b (Cancel k)) k
