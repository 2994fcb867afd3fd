-- A call's record leaves its own offset behind and stays within the book, so the allowance of records never runs out. Assumes nothing.
use Rattle.std.specs.Prelude.{Option, Some, None}
use Prim.Native.Nat.{ℕ, zero, suc, ◌+◌, ◌-◌, ◌≤◌, ◌<◌}
use mathlib.Core.Path.{◌≡◌, refl, ap, subst}
use mathlib.Core.List.{List, ◌∷◌}
use lib.ListN.{length}
use native.Mathlib.Omega.{arith}
use borrow.Author.Tests.{eq-eqb, ne_eqb, lt-ltb, le-ltb}
use Rattle.laws.proofs.Cases.{by_eq, by_lt}
use Rattle.model.specs.declared.Call.{Call}
use Rattle.record.specs.declared.CallMark.{CallMark}
use Rattle.record.specs.declared.CallMark.TheVariants.{Gu, Ga, Tu, Ta, Gw, Ca}
use Rattle.record.specs.declared.CallAt.{CallAt}
use Rattle.record.specs.declared.CallAt.TheVariants.{End, Fails, Asks}
use Rattle.record.specs.Bytes.{bits8}
use Rattle.record.specs.Record.{call_mark}
use Rattle.record.specs.Calls.{whole_call, call_marked, call_at, calls_from, ending_from, calls_of, ending_of}

abbrev Onward : List ℕ → ℕ → CallAt → Type 0
Onward s at End = Unit {0}
Onward s at (Fails n) = Unit {0}
Onward s at (Asks c to) = (at + 4 ≤ to) × (to ≤ length s)

whole_onward : (s : List ℕ) (at size : ℕ) (c : Call) → 4 ≤ size → Onward s at (whole_call s at size c)
whole_onward s at size c h =
    by_lt (length s - at) size
    (λ g. rw (lt-ltb (length s - at) size g) tt)
    (λ g. rw (le-ltb (length s - at) size g) (omega arith, omega arith))

mark_onward : (s : List ℕ) (at : ℕ) (m : Option CallMark) → Onward s at (call_marked m s at)
mark_onward s at (Some Gu) = whole_onward s at 8 _ (omega arith)
mark_onward s at (Some Ga) = whole_onward s at 7 _ (omega arith)
mark_onward s at (Some Tu) = whole_onward s at 8 _ (omega arith)
mark_onward s at (Some Ta) = whole_onward s at 8 _ (omega arith)
mark_onward s at (Some Gw) = whole_onward s at 9 _ (omega arith)
mark_onward s at (Some Ca) = whole_onward s at 4 _ (omega arith)
mark_onward s at None = tt

at_onward : (s : List ℕ) (at : ℕ) → Onward s at (call_at s at)
unfolding call_at
at_onward s at =
    by_eq (length s - at) 0
    (λ e. rw (eq-eqb (length s - at) 0 e) tt)
    (λ e. rw (ne_eqb (length s - at) 0 e)
    (by_eq (length s - at) 1
    (λ g. rw (eq-eqb (length s - at) 1 g) tt)
    (λ g. rw (ne_eqb (length s - at) 1 g) (mark_onward s at (call_mark (bits8 s at) (bits8 s (at + 1)))))))

-- A call's record is at least 4 bytes long and ends within the book.
pub asks_onward : (s : List ℕ) (at : ℕ) (c : Call) (to : ℕ) → call_at s at ≡ Asks c to → (at + 4 ≤ to) × (to ≤ length s)
asks_onward s at c to e = subst (Onward s at) e (at_onward s at)

-- Two allowances above the number of bytes that are left give the same calls and the same end.
pub record Same (f g : ℕ) (s : List ℕ) (at : ℕ) : Type 0 where
  pub calls : calls_from f s at ≡ calls_from g s at
  pub ending : ending_from f s at ≡ ending_from g s at

one_more : (f g : ℕ) (s : List ℕ) (at : ℕ) → ((to : ℕ) → at < to → to ≤ length s → Same f g s to) → (x : CallAt) → call_at s at ≡ x
    → Onward s at x → Same (suc f) (suc g) s at
unfolding calls_from ending_from
one_more f g s at rest End e o = record { calls = rw (e, calls_from) refl; ending = rw (e, ending_from) refl }
one_more f g s at rest (Fails n) e o = record { calls = rw (e, calls_from) refl; ending = rw (e, ending_from) refl }
one_more f g s at rest (Asks c to) e o =
    let r = rest to (omega (arith, o.0)) o.1 in
    record { calls = rw (e, calls_from) (ap (λ (l : List Call). c ∷ l) r.calls); ending = rw (e, ending_from) r.ending }

pub same_calls : (f g : ℕ) (s : List ℕ) (at : ℕ) → length s - at < f → length s - at < g → Same f g s at
same_calls zero g s at h k = absurd (omega arith)
same_calls (suc f) zero s at h k = absurd (omega arith)
same_calls (suc f) (suc g) s at h k =
    one_more f g s at (λ to a b. same_calls f g s to (omega arith) (omega arith)) (call_at s at) refl (at_onward s at)

-- The allowance of records never runs out: with any larger allowance the calls of a book and their end are the same.
pub enough_calls : (s : List ℕ) (at e : ℕ) → calls_from (length s + 1 + e) s at ≡ calls_of s at
enough_calls s at e = (same_calls (length s + 1 + e) (length s + 1) s at (omega arith) (omega arith)).calls

pub enough_ending : (s : List ℕ) (at e : ℕ) → ending_from (length s + 1 + e) s at ≡ ending_of s at
enough_ending s at e = (same_calls (length s + 1 + e) (length s + 1) s at (omega arith) (omega arith)).ending
