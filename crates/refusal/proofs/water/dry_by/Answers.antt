-- `refusal::dry_by` meets its contract. Assumes nothing.
use borrow.Author.Tests.{tests}
use mathlib.Core.Path.{◌∙◌}
use mathlib.Core.Bool.{Bool, ◌&&◌}
use Prim.Native.Nat.{ℕ}
use lib.Dec.{eqb}
use Rattle.std.proofs.Common.{arith, rules}
use Rattle.std.proofs.lemmas.Iterator.{YieldsList-from_slice, YieldsList-from_zip}
use Rattle.std.proofs.lemmas.Iterator.Search.{any_from_yields_List}
use Rattle.figures.specs.declared.UnitFigures.{UnitFigures}
use Rattle.figures.specs.Figures.{no_unit_figures}
use Rattle.basin.proofs.Everywhere.{zip_some}
use Rattle.refusal.specs.Grant.{in_deficit}
use Rattle.refusal.proofs.water.dry_by.Goals as goal

pub returns : goal.returns
returns c =
    let figures = c.args.figures.now in
    let ends = c.args.ends.now in
    let wanting : UnitFigures × ℕ → Bool = λ p. eqb p.1 c.args.outlet && in_deficit p.0 in
    any_from_yields_List wanting c.any.new.self _ _ c.any.ensures.ran
    (YieldsList-from_zip (YieldsList-from_slice figures (cc)) (YieldsList-from_slice ends (cc)))
    (λ x b q k. search (rules, tests))
    ∙ zip_some wanting figures ends no_unit_figures 0 (omega arith)
