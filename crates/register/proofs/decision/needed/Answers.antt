-- `register::needed` meets its contract. Assumes nothing.
use Rattle.std.proofs.Common.{refl, ap, ◌∙◌, take, arith}
use Rattle.model.specs.View.{View}
use Rattle.river.proofs.Units.{SameUnits, counted_units, ready_same, negative_same}
use Rattle.std.specs.Prelude.{is_some}
use mathlib.Core.Path.{subst⁻¹}
use mathlib.Core.Bool.{not}
use mathlib.Core.List.{List}
use lib.Signed.{non_neg}
use Rattle.model.specs.declared.Unit.{Unit}
use Rattle.river.specs.Flow.{Ready, flow}
use Rattle.river.specs.Units.{units_view, units_of}
use Rattle.river.proofs.Firsts.{some_fails}
use Rattle.basin.specs.Sound.{flowing}
use Rattle.register.proofs.decision.needed.Goals as goal
use Rattle.register.proofs.decision.needed.Goals.{After-lowered_units-less}

-- The view of the units without the title: the counted ones are its units.
abbrev view : After-lowered_units-less → View
view c = units_view c.lowered_units-less.result c.args.b.now.unit_count

ready : (c : After-lowered_units-less) → Ready (view c)
ready c = subst⁻¹ (λ (us : List Unit). Ready (units_view us c.args.b.now.unit_count)) c.lowered_units-less.ensures c.requires.1

same : (c : After-lowered_units-less) → SameUnits (view c) (units_of (take c.args.b.now.unit_count c.lowered_units-less.result))
same c = counted_units (view c) c.lowered_units-less.result (omega (arith, (ready c).few)) (λ k h. refl)

pub new-requires : goal.new-requires
new-requires c =
    let less = (goal.at.new-requires c).After-lowered_units-less in
    ready_same _ _ (same less) (ready less)

pub returns : goal.returns
returns c =
    c.is_some.ensures
    ∙ ap is_some (rw c.new.ensures at c.first_negative.ensures ∙ negative_same _ _ (same (goal.at.returns c).After-lowered_units-less))
    ∙ some_fails (λ j. non_neg (flow (units_view c.lowered_units-less.result c.args.b.now.unit_count) j)) c.args.b.now.unit_count
    ∙ ap (λ (us : List Unit). not (flowing (units_view us c.args.b.now.unit_count))) c.lowered_units-less.ensures
