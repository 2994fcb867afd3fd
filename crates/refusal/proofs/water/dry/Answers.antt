-- `refusal::dry` meets its contract: the units that it judges by are those of the basin, with their figures. Assumes nothing.
use Prim.Native.Nat.{ℕ, ◌≤◌, ◌<◌}
use mathlib.Core.Path.{◌≡◌, ap, ◌∙◌}
use mathlib.Core.Bool.{not, ◌&&◌}
use mathlib.Core.List.{List}
use lib.Dec.{eqb}
use lib.ListN.{length, get_or, take}
use lib.Seq.{get_or-take, length-take-le}
use native.Mathlib.Omega.{arith}
use Rattle.laws.proofs.Arrays.{get_or_table}
use Rattle.laws.proofs.Every.{every_same}
use Rattle.model.specs.declared.Unit.{Unit}
use Rattle.model.specs.View.{View}
use Rattle.river.specs.Units.{units_of}
use Rattle.river.proofs.Units.{ready_at}
use Rattle.figures.specs.declared.UnitFigures.{UnitFigures}
use Rattle.figures.specs.Figures.{no_unit_figures, unit_figures, all_unit_figures}
use Rattle.reach.specs.Passes.{Outlets}
use Rattle.refusal.specs.Grant as grants
use Rattle.refusal.specs.Grant.{in_deficit}
use Rattle.refusal.specs.Steps.{dry_by}
use Rattle.refusal.proofs.water.dry.Goals as goal

-- By the figures and the outlets of the counted units a basin is dry as by the definition.
same : (v : View) (j : ℕ) (figures : List UnitFigures) (ends : List ℕ) → figures ≡ all_unit_figures v → Outlets v ends → v.units ≤ 64
    → v.units ≤ length figures → j < v.units
    → dry_by (take v.units figures) (take v.units ends) (length (take v.units figures)) (get_or ends j 0) ≡ grants.dry v j
same v j figures ends e o few enough inside =
    ap (λ (n : ℕ). dry_by (take v.units figures) (take v.units ends) n (get_or ends j 0)) (length-take-le v.units figures enough)
    ∙ ap not
    (every_same v.units _ _
    (λ k h.
    let figure : get_or (take v.units figures) k no_unit_figures ≡ unit_figures v k =
    get_or-take v.units figures k no_unit_figures h
    ∙ ap (λ (all : List UnitFigures). get_or all k no_unit_figures) e
    ∙ get_or_table 64 no_unit_figures v.units (unit_figures v) k h (omega arith) in
    let end = get_or-take v.units ends k 0 h ∙ o.each k h in
    λ i. not (eqb (end i) (o.each j inside i) && in_deficit (figure i))))

pub returns : goal.returns
returns c =
    let v = units_of c.args.tree.now in
    let few = (ready_at c.units-n.ensures.units c.units-n.ensures.ready).few in
    let figures = c.of_units-figures.result in
    let ends = c.outlets-ends.result in
    c.dry_by.ensures
    ∙ ap (λ (us : List Unit). dry_by (take (length us) figures) (take (length us) ends) (length (take (length us) figures)) (get_or ends c.args.j 0))
    c.units-n.ensures.units
    ∙ same v c.args.j _ _ c.of_units-figures.ensures c.outlets-ends.ensures few (omega (arith, few)) c.requires
