-- `refusal::no_water` meets its contract: by the unit or the aquifer that gives. Assumes nothing.
use Rattle.std.proofs.Common.{sym, ap, ◌∙◌, ◌-◌, ℕ, arith}
use native.Mathlib.Numerals.{sub-one}
use Rattle.model.specs.View.{View}
use Rattle.refusal.specs.Grant.{dry, drained}
use Rattle.refusal.specs.Steps.{entries_of}
use Rattle.refusal.proofs.Giving.{dry_alone, UnitGives, unit_gives, AquiferGives, aquifer_gives}
use Rattle.refusal.proofs.water.no_water.Goals as goal
use Rattle.refusal.proofs.water.no_water.Goals.{Start, In-FromUnit, In-FromAquifer}

-- The view of the units and the aquifers.
abbrev entries : Start → View
entries c = entries_of c.args.tree.now c.args.aquifers.now 0

-- The unit that gives.
unit-of : (c : In-FromUnit) → UnitGives (entries (goal.at.In-FromUnit c).Start) c.args.t c.in-FromUnit.unit
unit-of c = unit_gives _ _ _ c.requires.1 (sym c.giver.ensures ∙ c.in-FromUnit.is)

pub dry-requires : goal.dry-requires
dry-requires c =
    let u = unit-of (goal.at.dry-requires c).In-FromUnit in
    omega (arith, c.from.ensures, u.positive, u.within)

pub returns-in-FromUnit : goal.returns-in-FromUnit
returns-in-FromUnit c =
    let v = entries (goal.at.returns-in-FromUnit c).Start in
    c.dry.ensures
    ∙ dry_alone v _
    ∙ ap (λ (n : ℕ). dry v (n - 1)) c.from.ensures
    ∙ ap (dry v) (sub-one _)
    ∙ sym (unit-of (goal.at.returns-in-FromUnit c).In-FromUnit).water

-- The aquifer that gives.
aquifer-of : (c : In-FromAquifer) → AquiferGives (entries (goal.at.In-FromAquifer c).Start) c.args.t c.in-FromAquifer.aquifer
aquifer-of c = aquifer_gives _ _ _ c.requires.1 (sym c.giver.ensures ∙ c.in-FromAquifer.is)

pub returns-in-FromAquifer : goal.returns-in-FromAquifer
returns-in-FromAquifer c =
    let v = entries (goal.at.returns-in-FromAquifer c).Start in
    c.drained.ensures
    ∙ ap (λ (n : ℕ). drained v (n - 1)) c.from-in-FromAquifer.ensures
    ∙ ap (drained v) (sub-one _)
    ∙ sym (aquifer-of (goal.at.returns-in-FromAquifer c).In-FromAquifer).water
