-- The end of a description. Assumes nothing.
use Rattle.std.specs.Prelude.{Option, Some, None, Ok}
use Prim.Native.Nat.{ℕ, ◌+◌, ◌<◌}
use mathlib.Core.Path.{◌≡◌, sym, ap, ◌∙◌}
use mathlib.Core.Bool.{not}
use lib.Dec.{ltb}
use lib.Signed.{non_neg}
use native.Mathlib.Numerals.{add-one}
use borrow.Author.Tests.{ltb-false}
use Rattle.model.specs.declared.Refusal.TheVariants.{BadDownstream, NegativeFlow}
use Rattle.model.specs.declared.Balance.{Balance}
use Rattle.model.specs.View.{View, view_of}
use Rattle.river.specs.Flow.{downstream, flow, Ready}
use Rattle.river.proofs.Firsts.{at_first, nothing_passed}
use Rattle.book.specs.declared.Opened.{Opened}
use Rattle.book.specs.Opening.{missing, negative, unless_at, refused_with, tested_with, Bounded}

-- A balance whose downstream numbers are all there is ready for the passes over its tree.
pub ready_of : (v : View) → Bounded v → missing v ≡ None → Ready v
ready_of v b e =
    record {
      few = b.few;
      onward = b.onward;
      within = λ k h. ltb-false v.units (downstream v k) (nothing_passed (λ j. ltb v.units (downstream v j)) v.units e k h);
      gains = b.gains;
      losses = b.losses;
      commitments = b.commitments;
    }

pub missing_below : (v : View) (j : ℕ) → missing v ≡ Some j → j < v.units
missing_below v j e = (at_first (λ j. ltb v.units (downstream v j)) v.units j e).0

pub negative_below : (v : View) (j : ℕ) → negative v ≡ Some j → j < v.units
negative_below v j e = (at_first (λ j. not (non_neg (flow v j))) v.units j e).0

module _ (b : Balance) (at : ℕ) where
  pub tested_missing : (j : ℕ) → missing (view_of b) ≡ Some j → refused_with BadDownstream (j + 1) ≡ tested_with b at
  tested_missing j e = ap (refused_with BadDownstream) (add-one j) ∙ sym (ap (λ (f : Option ℕ). unless_at BadDownstream f (unless_at NegativeFlow (negative (view_of b)) (record { answer = Ok tt; place = at; balance = b }))) e)

  pub tested_negative : (j : ℕ) → missing (view_of b) ≡ None → negative (view_of b) ≡ Some j → refused_with NegativeFlow (j + 1) ≡ tested_with b at
  tested_negative j e g =
      ap (refused_with NegativeFlow) (add-one j)
      ∙ sym (λ i. unless_at BadDownstream (e i) (unless_at NegativeFlow (g i) (record { answer = Ok tt; place = at; balance = b })))

  pub tested_accepted : missing (view_of b) ≡ None → negative (view_of b) ≡ None
      → ◌≡◌ {A = Opened} (record { answer = Ok tt; place = at; balance = b }) (tested_with b at)
  tested_accepted e g = sym (λ i. unless_at BadDownstream (e i) (unless_at NegativeFlow (g i) (record { answer = Ok tt; place = at; balance = b })))
