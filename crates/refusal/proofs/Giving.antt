-- No water, by the unit or the aquifer that gives; and over the units of a view alone. Assumes nothing.
use Prim.Native.Nat.{ℕ, pred, ◌≤◌, ◌<◌}
use mathlib.Core.Path.{◌≡◌, refl, sym, ap, ◌∙◌}
use mathlib.Core.Bool.{Bool, not, ◌&&◌, ◌||◌}
use lib.Dec.{eqb}
use native.Mathlib.Omega.{arith}
use Rattle.laws.specs.Sum.{every}
use Rattle.model.specs.declared.Refusal.TheVariants.{ReceiverBelow}
use Rattle.model.specs.declared.Title.{Title}
use Rattle.model.specs.declared.Title.TheVariants.{UnitWithdrawal, AquiferWithdrawal, UnitTransfer, AquiferTransfer, ReturningWithdrawal}
use Rattle.model.specs.Fresh.{empty_place}
use Rattle.model.specs.View.{View}
use Rattle.river.proofs.Units.{alone}
use Rattle.figures.proofs.Units.{unit_figures_alone}
use Rattle.reach.proofs.Units.{outlet_alone, below_alone}
use Rattle.effect.specs.Granted.{Named}
use Rattle.refusal.specs.Grant.{in_deficit, dry, drained, no_water, downstream_transfer, overfull}
use Rattle.refusal.specs.declared.Giver.TheVariants.{FromUnit, FromAquifer}
use Rattle.refusal.specs.Steps.{giver, goes_down, missing_fault, then_answer, volume_fault, early_fault}
use Rattle.model.specs.Answers.{refuse}
use Rattle.model.specs.Entries.{volume_of}

-- What is worked out over the units of a view alone is the same over the view.
pub dry_alone : (v : View) (j : ℕ) → dry (alone v) j ≡ dry v j
dry_alone v j = λ i.
    not (every v.units (λ k. not (eqb (outlet_alone v k i) (outlet_alone v j i) && in_deficit (unit_figures_alone v k i))))

pub downstream_alone : (v : View) (g r : ℕ) → downstream_transfer (alone v) g r ≡ downstream_transfer v g r
downstream_alone v g r = λ i. eqb g r || below_alone v (pred g) (pred r) i

-- Whether a transfer goes down is asked of the units alone.
pub goes_down_alone : (v : View) (t : Title) → goes_down (alone v) t ≡ goes_down v t
goes_down_alone v (UnitWithdrawal u r x) = refl
goes_down_alone v (AquiferWithdrawal a x) = refl
goes_down_alone v (UnitTransfer g r x) = downstream_alone v g r
goes_down_alone v (AquiferTransfer a u x) = refl
goes_down_alone v (ReturningWithdrawal a u r x) = refl

-- A view without its titles, with so many numbers given.
abbrev pub untitled : View → ℕ → View
untitled v given =
    record { units = v.units; unit = v.unit; aquifers = v.aquifers; aquifer = v.aquifer; given = given; place = λ k. empty_place }

-- What a grant refuses before its water is looked at does not depend on the titles, but on how many numbers were given.
pub early_untitled : (v : View) (t : Title) → early_fault (untitled v v.given) t ≡ early_fault v t
early_untitled v t =
    ap (λ (b : Bool). then_answer (missing_fault v.units v.aquifers t) (refuse ReceiverBelow b (volume_fault v.given (volume_of t) (overfull v t))))
    (sym (goes_down_alone (untitled v v.given) t) ∙ goes_down_alone v t)

-- Nor does 17 depend on them.
pub water_untitled : (v : View) (given : ℕ) (t : Title) → no_water (untitled v given) t ≡ no_water v t
water_untitled v given (UnitWithdrawal u r x) = sym (dry_alone (untitled v given) (pred u)) ∙ dry_alone v (pred u)
water_untitled v given (AquiferWithdrawal a x) = refl
water_untitled v given (UnitTransfer g r x) = sym (dry_alone (untitled v given) (pred g)) ∙ dry_alone v (pred g)
water_untitled v given (AquiferTransfer a u x) = refl
water_untitled v given (ReturningWithdrawal a u r x) = refl

-- What gives is there, and there is no water where its basin is dry or the aquifer is drained.
pub data Gives (v : View) (t : Title) : Type 0 where
  from_unit : (u : ℕ) → giver t ≡ FromUnit u → 0 < u → u ≤ v.units → no_water v t ≡ dry v (pred u) → Gives v t
  from_aquifer : (a : ℕ) → giver t ≡ FromAquifer a → 0 < a → a ≤ v.aquifers → no_water v t ≡ drained v (pred a) → Gives v t

pub gives : (v : View) (t : Title) → Named v t → Gives v t
gives v (UnitWithdrawal u r x) n = from_unit u refl n.extraction.0 n.extraction.1 refl
gives v (AquiferWithdrawal a x) n = from_aquifer a refl n.wells.0 n.wells.1 refl
gives v (UnitTransfer g r x) n = from_unit g refl n.exports.0 n.exports.1 refl
gives v (AquiferTransfer a u x) n = from_aquifer a refl n.wells.0 n.wells.1 refl
gives v (ReturningWithdrawal a u r x) n = from_aquifer a refl n.wells.0 n.wells.1 refl

-- The unit that gives.
pub record UnitGives (v : View) (t : Title) (u : ℕ) : Type 0 where
  pub positive : 0 < u
  pub within : u ≤ v.units
  pub water : no_water v t ≡ dry v (pred u)

pub unit_gives : (v : View) (t : Title) (u : ℕ) → Named v t → giver t ≡ FromUnit u → UnitGives v t u
unit_gives v t u n e =
    elim (gives v t n) [
      | from_unit k g p w q ↦ let h : k ≡ u = cc in rw (sym h) (record { positive = p; within = w; water = q })
      | from_aquifer k g p w q ↦ let z : ◌≡◌ {A = ℕ} 0 1 = cc in absurd (omega arith)
    ]

-- The aquifer that gives.
pub record AquiferGives (v : View) (t : Title) (a : ℕ) : Type 0 where
  pub positive : 0 < a
  pub within : a ≤ v.aquifers
  pub water : no_water v t ≡ drained v (pred a)

pub aquifer_gives : (v : View) (t : Title) (a : ℕ) → Named v t → giver t ≡ FromAquifer a → AquiferGives v t a
aquifer_gives v t a n e =
    elim (gives v t n) [
      | from_unit k g p w q ↦ let z : ◌≡◌ {A = ℕ} 0 1 = cc in absurd (omega arith)
      | from_aquifer k g p w q ↦ let h : k ≡ a = cc in rw (sym h) (record { positive = p; within = w; water = q })
    ]
