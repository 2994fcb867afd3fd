-- What is kept, what a return brings back, and which numbers repeat, of what was asked. Assumes nothing.
use Rattle.std.specs.Prelude.{Ok, Err}
use Prim.Native.Nat.{suc}
use mathlib.Core.Path.{◌≡◌, refl, sym, ap, subst⁻¹, ◌∙◌}
use mathlib.Core.Bool.{Bool, true, false, cond, not, ◌||◌, true≢false}
use mathlib.Core.List.{List, [], ◌∷◌, ◌++◌, append_assoc, append-nil}
use borrow.Author.Tests.{not-true}
use Rattle.laws.proofs.Cases.{by_bool}
use Rattle.laws.proofs.Every.{both}
use Rattle.model.specs.declared.Refusal.TheVariants.{NoSuchName}
use Rattle.model.specs.declared.Call.{Call}
use Rattle.model.specs.declared.Call.TheVariants.{Grant}
use Rattle.model.specs.declared.Title.{Title}
use Rattle.model.specs.Answers.{Answer, refuse}
use Rattle.book.specs.Reading.{Description}
use Rattle.conservation.specs.Demand3.{start, tally_refusal, tallied}
use Rattle.conservation.specs.Replies.{Said, number_for, saying}
use Rattle.planning.specs.declared.Name.{Name}
use Rattle.planning.specs.Names.{same_name}
use Rattle.planning.proofs.Naming.{same_self, same_sym}
use Rattle.requests.specs.Requests.{Request, ask, keep, back, watch}
use Rattle.history.specs.Asked.{Asked, among, keep_refused, back_refused, kept_under, returned, unless_refused, asking, history, tellings, calls, leaves}

-- A list of calls is kept under a name.
pub record Held (a : Asked) (n : Name) (l : List Call) : Type 0 where
  pub used : among a.names n ≡ true
  pub line : a.line n ≡ l

-- A name that was kept is still kept when another one is added, and one that is added is kept.
among_more : (ms : List Name) (m n : Name) → among ms n ≡ true → among (ms ++ (m ∷ [])) n ≡ true
unfolding among
among_more [] m n e = absurd (true≢false (sym e))
among_more (x ∷ ms) m n e =
    by_bool (same_name x n)
    (λ p. ap (λ (t : Bool). t || among (ms ++ (m ∷ [])) n) p)
    (λ p.
    ap (λ (t : Bool). t || among (ms ++ (m ∷ [])) n) p
    ∙ among_more ms m n (sym (ap (λ (t : Bool). t || among ms n) p) ∙ e))

among_last : (ms : List Name) (n : Name) → among (ms ++ (n ∷ [])) n ≡ true
unfolding among
among_last [] n = ap (λ (t : Bool). t || false) (same_self n)
among_last (x ∷ ms) n =
    by_bool (same_name x n)
    (λ p. ap (λ (t : Bool). t || among (ms ++ (n ∷ [])) n) p)
    (λ p. ap (λ (t : Bool). t || among (ms ++ (n ∷ [])) n) p ∙ among_last ms n)

-- Names that are not the same are so either way round.
apart_sym : (m n : Name) → same_name m n ≡ false → same_name n m ≡ false
apart_sym m n e = by_bool (same_name n m) (λ p. absurd (true≢false (sym (same_sym n m p) ∙ e))) (λ p. p)

-- What a keeping that is not refused puts under its name, and what it leaves under others.
module _ (a : Asked) (n : Name) where
  accepted : keep_refused a n ≡ Ok tt → asking a (keep n) ≡ kept_under a n
  accepted e = ap (λ (r : Answer). unless_refused r (kept_under a n) a) e

  kept_now : Held (kept_under a n) n a.current
  kept_now =
      record {
        used =
            by_bool (among a.names n)
            (λ p. ap (λ (t : Bool). among (cond t a.names (a.names ++ (n ∷ []))) n) p ∙ p)
            (λ p. ap (λ (t : Bool). among (cond t a.names (a.names ++ (n ∷ []))) n) p ∙ among_last a.names n);
        line = ap (λ (t : Bool). cond t a.current (a.line n)) (same_self n);
      }

  -- Keeping puts the current list of calls under the name.
  pub keeps : keep_refused a n ≡ Ok tt → Held (asking a (keep n)) n a.current
  keeps e = subst⁻¹ (λ (x : Asked). Held x n a.current) (accepted e) kept_now

  -- Nothing else of what is kept changes.
  pub keeps_others : (m : Name) (l : List Call) → same_name m n ≡ false → Held a m l → Held (asking a (keep n)) m l
  keeps_others m l e h = by_refusal (keep_refused a n)
    where
      kept_on : Held (kept_under a n) m l
      kept_on =
          record {
            used =
                by_bool (among a.names n)
                (λ p. ap (λ (t : Bool). among (cond t a.names (a.names ++ (n ∷ []))) m) p ∙ h.used)
                (λ p. ap (λ (t : Bool). among (cond t a.names (a.names ++ (n ∷ []))) m) p ∙ among_more a.names n m h.used);
            line = ap (λ (t : Bool). cond t a.current (a.line m)) e ∙ h.line;
          }

      by_refusal : (r : Answer) → Held (unless_refused r (kept_under a n) a) m l
      by_refusal (Ok u) = kept_on
      by_refusal (Err k) = h

  -- Going back makes the list under the name the current one, and leaves all that is kept.
  pub goes_back : (l : List Call) → Held a n l → (asking a (back n)).current ≡ l
  goes_back l h =
      ap (λ (t : Bool). (unless_refused (refuse NoSuchName (not t) (Ok tt)) (returned a n) a).current) h.used ∙ h.line

  pub back_leaves : (m : Name) (l : List Call) → Held a m l → Held (asking a (back n)) m l
  back_leaves m l h = by_refusal (back_refused a n)
    where
      by_refusal : (r : Answer) → Held (unless_refused r (returned a n) a) m l
      by_refusal (Ok u) = record { used = h.used; line = h.line }
      by_refusal (Err k) = h

-- What is kept under a name stays so while the name is not kept again.
held_on : (a : Asked) (n : Name) (l : List Call) → Held a n l → (rs : List Request) → leaves n rs ≡ true → Held (history a rs) n l
unfolding history leaves
held_on a n l h [] e = h
held_on a n l h (ask c ∷ rs) e = held_on (asking a (ask c)) n l (record { used = h.used; line = h.line }) rs e
held_on a n l h (keep m ∷ rs) e =
    let p = both (not (same_name m n)) (leaves n rs) e in
    held_on (asking a (keep m)) n l (keeps_others a m n l (apart_sym m n (not-true _ p.0)) h) rs p.1
held_on a n l h (back m ∷ rs) e = held_on (asking a (back m)) n l (back_leaves a m n l h) rs e
held_on a n l h (watch w ∷ rs) e = held_on a n l h rs e

history_append : (a : Asked) (rs ss : List Request) → history a (rs ++ ss) ≡ history (history a rs) ss
unfolding history
history_append a [] ss = refl
history_append a (r ∷ rs) ss = history_append (asking a r) rs ss

calls_append : (a : Asked) (cs : List Call) → (history a (calls cs)).current ≡ a.current ++ cs
unfolding history calls
calls_append a [] = sym (append-nil a.current)
calls_append a (c ∷ cs) = calls_append (asking a (ask c)) cs ∙ append_assoc a.current (c ∷ []) cs

-- For someone who went back, the list of calls is the one up to the keeping, followed by those after the return.
pub list_of_one_who_went_back : (a : Asked) (n : Name) (rs : List Request) (cs : List Call) → keep_refused a n ≡ Ok tt → leaves n rs ≡ true
    → (history a (keep n ∷ (rs ++ (back n ∷ calls cs)))).current ≡ a.current ++ cs
unfolding history
list_of_one_who_went_back a n rs cs e g =
    let kept = asking a (keep n) in
    let h = held_on kept n a.current (keeps a n e) rs g in
    ap (λ (x : Asked). x.current) (history_append kept rs (back n ∷ calls cs))
    ∙ calls_append (asking (history kept rs) (back n)) cs
    ∙ ap (λ (l : List Call). l ++ cs) (goes_back (history kept rs) n a.current h)

-- What the tally says of a call after a list of calls.
abbrev said_after : Description → List Call → Call → Said
said_after d l c = saying (tally_refusal d (tallied d start l) c) (number_for (tallied d start l) c)

-- A title number given after going back may repeat one from the abandoned line: a grant before the return and one after it, neither of
-- them refused, are told the same number.
pub numbers_repeat : (d : Description) (a : Asked) (n : Name) (x y : Title) → keep_refused a n ≡ Ok tt
    → tally_refusal d (tallied d start a.current) (Grant x) ≡ Ok tt → tally_refusal d (tallied d start a.current) (Grant y) ≡ Ok tt
    → tellings d a (keep n ∷ ask (Grant x) ∷ back n ∷ ask (Grant y) ∷ [])
    ≡ (saying (Ok tt) 0
    ∷ saying (Ok tt) (suc (tallied d start a.current).last)
    ∷ saying (Ok tt) 0
    ∷ saying (Ok tt) (suc (tallied d start a.current).last)
    ∷ [])
unfolding tellings
numbers_repeat d a n x y e p q =
    let first = asking a (keep n) in
    let second = asking first (ask (Grant x)) in
    let same : first.current ≡ a.current = ap (λ (z : Asked). z.current) (accepted a n e) in
    let h : Held second n a.current = record { used = (keeps a n e).used; line = (keeps a n e).line } in
    λ i.
    saying (e i) 0
    ∷ (ap (λ (l : List Call). said_after d l (Grant x)) same ∙ ap (λ (r : Answer). saying r (suc (tallied d start a.current).last)) p) i
    ∷ saying (refuse NoSuchName (not (h.used i)) (Ok tt)) 0
    ∷ (ap (λ (l : List Call). said_after d l (Grant y)) (goes_back second n a.current h)
    ∙ ap (λ (r : Answer). saying r (suc (tallied d start a.current).last)) q) i
    ∷ []
