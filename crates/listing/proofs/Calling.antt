-- The loop over the calls of a book: the lines written so far and those of the calls that are left are all call lines. Assumes nothing.
use Rattle.std.specs.Prelude.{Ok, Err}
use Prim.Native.Nat.{ℕ, suc, ◌+◌, ◌*◌, ◌≤◌}
use mathlib.Core.Path.{◌≡◌, refl, sym, ap, subst, ◌∙◌}
use mathlib.Core.List.{List, [], ◌++◌, append-nil, append_assoc}
use lib.ListN.{length}
use native.Mathlib.Numerals.{add-one}
use native.Mathlib.Omega.{arith}
use Rattle.model.specs.declared.Refusal.{Refusal}
use Rattle.model.specs.declared.Call.{Call}
use Rattle.model.specs.declared.Call.TheVariants.{Grant, Cancel}
use Rattle.model.specs.Answers.{Answer}
use Rattle.model.proofs.Answers.{by_answer}
use Rattle.model.specs.declared.Balance.{Balance}
use Rattle.record.specs.declared.CallAt.TheVariants.{End, Fails, Asks}
use Rattle.record.specs.Calls.{call_at, calls_from, calls_of}
use Rattle.register.specs.Calls.{call_reply, call_number}
use Rattle.register.proofs.Keeping.{refused_keeps, accepted_number}
use Rattle.calls.specs.Running.{ran}
use Rattle.calls.proofs.Running.{ran_asks}
use Rattle.calls.proofs.Onward.{asks_onward, same_calls}
use Rattle.report.specs.Calls.{outcome_line}
use Rattle.text.specs.declared.Page.{Page}
use Rattle.text.specs.Page.{Fits, Puts}
use Rattle.text.proofs.Pages.{then, widen, restate, still}
use Rattle.listing.specs.Listing.{accepted_text, call_text, call_lines}
use Rattle.listing.specs.Outcomes.{accepted_outcome, answered}

-- The lines of the calls that are left after k calls.
abbrev pub lines_left : ℕ → List ℕ → ℕ → Balance → List ℕ
lines_left k s at b = call_lines (suc k) b (calls_of s at)

module _ (k : ℕ) (s : List ℕ) (at : ℕ) (b : Balance) where
  left_ends : call_at s at ≡ End → lines_left k s at b ≡ []
  unfolding calls_from call_lines
  left_ends e = ap (λ (left : ℕ). call_lines (suc k) b (calls_from left s at)) (add-one (length s)) ∙ rw (e, calls_from, call_lines) refl

  left_fails : (n : Refusal) → call_at s at ≡ Fails n → lines_left k s at b ≡ []
  unfolding calls_from call_lines
  left_fails n e = ap (λ (left : ℕ). call_lines (suc k) b (calls_from left s at)) (add-one (length s)) ∙ rw (e, calls_from, call_lines) refl

  left_asks : (c : Call) (to : ℕ) → call_at s at ≡ Asks c to
      → lines_left k s at b
      ≡ call_text (suc k) c (call_reply b c).answer (call_reply b c).number ++ lines_left (suc k) s to (call_reply b c).balance
  unfolding calls_from call_lines
  left_asks c to e =
      let o = asks_onward s at c to e in
      let r = call_reply b c in
      ap (λ (left : ℕ). call_lines (suc k) b (calls_from left s at)) (add-one (length s))
      ∙ rw (e, calls_from, call_lines) refl
      ∙ ap (λ (l : List Call). call_text (suc k) c r.answer r.number ++ call_lines (suc (suc k)) r.balance l)
      (same_calls (length s) (length s + 1) s to (omega (arith, o.0, o.1)) (omega arith)).calls

-- The line of an accepted call.
pub accepted_line_lem : (k : ℕ) (c : Call) (n : ℕ) → outcome_line k (accepted_outcome c n) ≡ accepted_text k c n
accepted_line_lem k (Grant t) n = refl
accepted_line_lem k (Cancel m) n = refl

-- The line of what a call came to, by its answer and the numbers given before it, is the call's line.
called_text : (k : ℕ) (b : Balance) (c : Call) (a : Answer) → (call_reply b c).answer ≡ a
    → outcome_line k (answered a (accepted_outcome c (call_number b.given c))) ≡ call_text k c a (call_reply b c).number
called_text k b c (Ok u) e = ap (λ (n : ℕ). outcome_line k (accepted_outcome c n)) (sym (accepted_number b c e)) ∙ accepted_line_lem k c _
called_text k b c (Err r) e = refl

pub called_line : (k : ℕ) (b : Balance) (c : Call) (a : Answer) → a ≡ (call_reply b c).answer
    → outcome_line k (answered a (accepted_outcome c (call_number b.given c))) ≡ call_text k c (call_reply b c).answer (call_reply b c).number
called_line k b c a e = called_text k b c a (sym e) ∙ ap (λ (x : Answer). call_text k c x (call_reply b c).number) e

-- The loop after k calls: what is written, and that with the lines that are left it is all call lines.
pub record Printing (s : List ℕ) (from : ℕ) (start : Balance) (old page : Page) (b : Balance) (at k : ℕ) : Type 0 where
  pub text : List ℕ
  pub put : Puts (64 * k) old text page
  pub all : text ++ lines_left k s at b ≡ call_lines 1 start (calls_of s from)
  pub same : ran s at b ≡ ran s from start
  pub onward : from + 4 * k ≤ at
  pub few : 4 * k ≤ length s

pub printing_start : (s : List ℕ) (from : ℕ) (start : Balance) (page : Page) → Fits 0 page → Printing s from start page page start from 0
printing_start s from start page h = record { text = []; put = still page h; all = refl; same = refl; onward = omega arith; few = omega arith }

no_more : (text rest all : List ℕ) → text ++ rest ≡ all → rest ≡ [] → text ≡ all
no_more text rest all e q = sym (append-nil text) ∙ ap (λ (l : List ℕ). text ++ l) (sym q) ∙ e

module _ (s : List ℕ) (from : ℕ) (start : Balance) {old page : Page} (b : Balance) (at k : ℕ) (i : Printing s from start old page b at k) where
  -- With no call left all call lines are on the page.
  lines_all : length s ≤ 65536 → lines_left k s at b ≡ [] → Puts 1048576 old (call_lines 1 start (calls_of s from)) page
  lines_all h e = widen (restate i.put (no_more i.text _ _ i.all e)) (omega (arith, i.few))

  pub lines_end : length s ≤ 65536 → call_at s at ≡ End → Puts 1048576 old (call_lines 1 start (calls_of s from)) page
  lines_end h e = lines_all h (left_ends k s at b e)

  pub lines_fail : length s ≤ 65536 → (n : Refusal) → call_at s at ≡ Fails n → Puts 1048576 old (call_lines 1 start (calls_of s from)) page
  lines_fail h n e = lines_all h (left_fails k s at b n e)

  module _ (c : Call) (to : ℕ) (e : call_at s at ≡ Asks c to) where
    -- With a call more there is room for its line, and few are left.
    pub few_more : 4 * (k + 1) ≤ length s
    few_more = let o = asks_onward s at c to e in omega (arith, i.onward, o.0, o.1)

    -- One call more.
    printing_asks : {new : Page} → Puts 64 page (call_text (k + 1) c (call_reply b c).answer (call_reply b c).number) new
        → Printing s from start old new (call_reply b c).balance to (k + 1)
    printing_asks w =
        let r = call_reply b c in
        let line = call_text (k + 1) c r.answer r.number in
        record {
          text = i.text ++ line;
          put = widen (then i.put w) (omega arith);
          all =
              append_assoc i.text line _
              ∙ ap (λ (l : List ℕ). i.text ++ l)
              (ap (λ (n : ℕ). call_text n c r.answer r.number ++ lines_left n s to r.balance) (add-one k) ∙ sym (left_asks k s at b c to e))
              ∙ i.all;
          same = sym (ran_asks s at b c to e) ∙ i.same;
          onward = omega (arith, i.onward, (asks_onward s at c to e).0);
          few = few_more;
        }

    module _ {new : Page} (a : Answer) (f : a ≡ (call_reply b c).answer)
        (w : Puts 64 page (outcome_line (k + 1) (answered a (accepted_outcome c (call_number b.given c)))) new) where
      -- The same by the answer that was printed.
      pub printing_answered : Printing s from start old new (call_reply b c).balance to (k + 1)
      printing_answered = printing_asks (restate w (called_line (k + 1) b c a f))

      -- A refused call leaves the balance as it is.
      pub printing_refused : (a ≡ Ok tt → ⊥) → Printing s from start old new b to (k + 1)
      printing_refused n =
          by_answer a (λ x. absurd (n x))
          (λ m x. subst (λ (y : Balance). Printing s from start old new y to (k + 1)) (refused_keeps b c m (sym f ∙ x)).0 printing_answered)
