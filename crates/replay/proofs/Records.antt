-- What stands at an offset of a journal, and how far its record goes. Assumes nothing.
use Rattle.std.specs.Prelude.{Option, Some, None}
use Prim.Native.Nat.{ℕ, ◌+◌, ◌-◌, ◌≤◌, ◌<◌}
use mathlib.Core.Path.{◌≡◌, refl, sym, ap, subst, ◌∙◌}
use mathlib.Core.List.{List}
use lib.ListN.{length}
use native.Mathlib.Omega.{arith}
use borrow.Author.Tests.{lt-ltb, le-ltb}
use Rattle.laws.proofs.Cases.{by_lt}
use Rattle.model.specs.declared.Refusal.{Refusal}
use Rattle.record.specs.declared.CallAt.{CallAt}
use Rattle.record.specs.declared.CallAt.TheVariants.{End as noCall, Fails as failing, Asks}
use Rattle.record.specs.Calls.{call_at}
use Rattle.calls.proofs.Onward.{asks_onward}
use Rattle.requests.specs.declared.OwnMark.{OwnMark}
use Rattle.requests.specs.declared.OwnMark.TheVariants.{Kp, Gb, Wi}
use Rattle.requests.specs.declared.RecordAt.{RecordAt}
use Rattle.requests.specs.declared.RecordAt.TheVariants.{End, Fails, Calls, Keeps, Returns, Watches}
use Rattle.requests.specs.Watched.{window_size}
use Rattle.requests.specs.Records.{own_at, whole_record, own_marked, besides, record_at}
use Rattle.requests.specs.Requests.{asking, request_at}

-- What is asked, by the record that was read.
pub asked : (s : List ℕ) (at : ℕ) (r x : RecordAt) → r ≡ record_at s at → r ≡ x → request_at s at ≡ asking x s at
asked s at r x e q = ap (λ (y : RecordAt). asking y s at) (sym e ∙ q)

-- How far a record goes: a call of a book at least 4 bytes, a keeping and a return 10, a moving window by its counts, and none past the end.
abbrev pub Onward : List ℕ → ℕ → RecordAt → Type 0
Onward s at End = Unit {0}
Onward s at (Fails n) = Unit {0}
Onward s at (Calls c to) = (at + 4 ≤ to) × (to ≤ length s)
Onward s at (Keeps to) = (to ≡ at + 10) × (to ≤ length s)
Onward s at (Returns to) = (to ≡ at + 10) × (to ≤ length s)
Onward s at (Watches to) = (to ≡ at + window_size s at) × (to ≤ length s)

whole_onward : (s : List ℕ) (at size : ℕ) (go : ℕ → RecordAt) → 0 < size → (at + size ≤ length s → Onward s at (go (at + size))) → Onward s at (whole_record s at size go)
whole_onward s at size go some h =
    by_lt (length s - at) size (λ g. rw (lt-ltb (length s - at) size g) tt) (λ g. rw (le-ltb (length s - at) size g) (h (omega arith)))

own_onward : (s : List ℕ) (at : ℕ) (n : Refusal) (m : Option OwnMark) → Onward s at (own_marked m s at n)
own_onward s at n (Some Kp) = whole_onward s at 10 (λ to. Keeps to) (omega arith) (λ h. (refl, h))
own_onward s at n (Some Gb) = whole_onward s at 10 (λ to. Returns to) (omega arith) (λ h. (refl, h))
own_onward s at n (Some Wi) = whole_onward s at (window_size s at) (λ to. Watches to) (omega arith) (λ h. (refl, h))
own_onward s at n None = tt

besides_onward : (s : List ℕ) (at : ℕ) (x : CallAt) → call_at s at ≡ x → Onward s at (besides x s at)
besides_onward s at noCall e = tt
besides_onward s at (failing n) e = own_onward s at n (own_at s at)
besides_onward s at (Asks c to) e = asks_onward s at c to e

pub onward : (s : List ℕ) (at : ℕ) → Onward s at (record_at s at)
unfolding record_at
onward s at = besides_onward s at (call_at s at) refl

module _ (s : List ℕ) (at : ℕ) (r : RecordAt) (e : r ≡ record_at s at) where
  pub keeps_onward : (to : ℕ) → r ≡ Keeps to → (to ≡ at + 10) × (to ≤ length s)
  keeps_onward to q = subst (Onward s at) (sym e ∙ q) (onward s at)

  pub returns_onward : (to : ℕ) → r ≡ Returns to → (to ≡ at + 10) × (to ≤ length s)
  returns_onward to q = subst (Onward s at) (sym e ∙ q) (onward s at)

  pub watches_onward : (to : ℕ) → r ≡ Watches to → (to ≡ at + window_size s at) × (to ≤ length s)
  watches_onward to q = subst (Onward s at) (sym e ∙ q) (onward s at)
