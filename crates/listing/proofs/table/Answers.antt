-- `listing::table` meets its contract. Assumes nothing.
use Rattle.std.proofs.Common.{◌≡◌, ◌≤◌, sym, ap, ◌∙◌, length, take, arith}
use mathlib.Core.Bool.{true}
use Rattle.std.proofs.lemmas.List.{length-take}
use Rattle.model.specs.View.{view_of}
use Rattle.figures.specs.declared.UnitFigures.{UnitFigures}
use Rattle.figures.specs.declared.AquiferFigures.{AquiferFigures}
use Rattle.figures.specs.Figures.{unit_figures, no_unit_figures, aquifer_figures, no_aquifer_figures}
use Rattle.basin.specs.Sound.{sound}
use Rattle.basin.specs.declared.Figures.{Figures}
use Rattle.text.proofs.Pages.{still, then, widen, restate}
use Rattle.listing.specs.Listing.{unit_text, aquifer_text}
use Rattle.listing.proofs.Rows.{lines_put}
use Rattle.listing.proofs.Tables.{figures_sound, refused_unsound, few_units, few_aquifers, units_are, aquifers_are, table_is, no_table}
use Rattle.listing.proofs.table.Goals as goal
use Rattle.listing.proofs.table.Goals.{In-Ok}

sound-here : (c : In-Ok) → sound (view_of c.args.b) ≡ true
sound-here c = figures_sound (view_of c.args.b) (ap (λ (r : Figures). r.answer) (sym c.figures-f.ensures) ∙ c.in-Ok.is)

pub shared_ref_as_front-lines : goal.shared_ref_as_front-lines
shared_ref_as_front-lines c = few_units (view_of c.args.b) (sound-here (goal.at.shared_ref_as_front-lines c).In-Ok)

pub lines-requires : goal.lines-requires
lines-requires c =
    let few : length (take c.args.b.unit_count c.figures-f.result.units) ≤ 64 = omega (arith, length-take {A = UnitFigures}) in
    (few, omega arith)

pub shared_ref_as_front-lines-in-Ok : goal.shared_ref_as_front-lines-in-Ok
shared_ref_as_front-lines-in-Ok c = few_aquifers (view_of c.args.b) (sound-here (goal.at.shared_ref_as_front-lines-in-Ok c).In-Ok)

pub lines-requires-in-Ok : goal.lines-requires-in-Ok
lines-requires-in-Ok c =
    let w = c.lines.ensures in
    let few : length (take c.args.b.aquifer_count c.figures-f.result.aquifers) ≤ 32 = omega (arith, length-take {A = AquiferFigures}) in
    let before : length (take c.args.b.unit_count c.figures-f.result.units) ≤ 64 = omega (arith, length-take {A = UnitFigures}) in
    (omega arith, omega (arith, few, before, w.put.short, w.put.place, w.size))

pub returns-in-Ok : goal.returns-in-Ok
returns-in-Ok c =
    let v = view_of c.args.b in
    let s = sound-here (goal.at.returns-in-Ok c).In-Ok in
    let r = c.figures-f.ensures in
    let units = lines_put unit_text no_unit_figures 64 v.units (unit_figures v) _ (few_units v s) (units_are v s _ r) c.lines.ensures in
    let aquifers = lines_put aquifer_text no_aquifer_figures 32 v.aquifers (aquifer_figures v) _ (few_aquifers v s) (aquifers_are v s _ r) c.lines-in-Ok.ensures in
    widen (restate (then units aquifers) (table_is v s)) (omega (arith, few_units v s, few_aquifers v s))

pub returns-in_default : goal.returns-in_default
returns-in_default c =
    let v = view_of c.args.b in
    widen
    (restate (still c.args.page.now (omega arith))
    (no_table v (refused_unsound v _ (ap (λ (r : Figures). r.answer) (sym c.figures-f.ensures) ∙ c.in_default.is))))
    (omega arith)
