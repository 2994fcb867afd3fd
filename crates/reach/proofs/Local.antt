-- Flows that stay at 0 or above: outside a basin, and everywhere. Assumes nothing.
use Prim.Native.Nat.{ℕ, ◌<◌}
use mathlib.Core.Path.{◌≡◌, refl, sym, ◌∙◌}
use mathlib.Core.Bool.{true}
use lib.IntN.{ℤ}
use lib.Signed.{non_neg, ◌≤ℤ◌}
use native.Mathlib.Omega.{arith}
use Rattle.laws.proofs.Parts.{by_sign, le_parts, non_neg_true, parts_non_neg}
use Rattle.model.specs.View.{View}
use Rattle.river.specs.Flow.{downstream, net, flow, Ready}
use Rattle.river.proofs.Local.{flow_local}
use Rattle.reach.specs.Reach.{outlet}
use Rattle.reach.proofs.Ways.{upstream_same}

-- What is at least a number that is not negative is not negative.
non_neg_more : (a b : ℤ) → a ≤ℤ b → non_neg a ≡ true → non_neg b ≡ true
non_neg_more a b h e = by_sign b (λ g. parts_non_neg b g) (λ g k. absurd (omega (arith, le_parts a b h, non_neg_true a e)))

-- A flow outside the basin of an outlet stays at 0 or above where no unit outside that basin adds less.
pub flow_outside : (v w : View) → Ready v → ((k : ℕ) → k < v.units → downstream w k ≡ downstream v k) → (o : ℕ)
    → ((k : ℕ) → k < v.units → (outlet v k ≡ o → ⊥) → net (v.unit k) ≤ℤ net (w.unit k))
    → (j : ℕ) → j < v.units → (outlet v j ≡ o → ⊥) → non_neg (flow v j) ≡ true → non_neg (flow w j) ≡ true
flow_outside v w r s o m j h i e =
    non_neg_more (flow v j) (flow w j)
    (flow_local v w s (λ k. outlet v k ≡ o → ⊥) (λ k l g d q. λ t. q (sym (upstream_same v r k l g d) ∙ t)) m j h i)
    e

-- Every flow stays at 0 or above where no unit adds less.
pub flow_raised : (v w : View) → ((k : ℕ) → k < v.units → downstream w k ≡ downstream v k)
    → ((k : ℕ) → k < v.units → net (v.unit k) ≤ℤ net (w.unit k))
    → (j : ℕ) → j < v.units → non_neg (flow v j) ≡ true → non_neg (flow w j) ≡ true
flow_raised v w s m j h e =
    non_neg_more (flow v j) (flow w j) (flow_local v w s (λ k. k ≡ k) (λ k l g d q. refl) (λ k g q. m k g) j h refl) e
