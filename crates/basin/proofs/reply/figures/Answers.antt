-- `basin::figures` meets its contract. Assumes nothing.
use Prim.Native.Nat.{◌≤◌}
use mathlib.Core.Path.{◌≡◌, refl, sym, ap, ◌∙◌}
use mathlib.Core.List.{List}
use lib.ListN.{length, take}
use native.Mathlib.Omega.{arith}
use mathlib.Core.Bool.{true}
use Rattle.model.specs.View.{view_of}
use Rattle.river.specs.Units.{units_of}
use Rattle.river.proofs.Units.{SameUnits, counted_units, ready_same}
use Rattle.model.specs.declared.Unit.{Unit}
use Rattle.figures.specs.Figures.{all_unit_figures}
use Rattle.figures.proofs.Units.{figures_same}
use Rattle.figures.proofs.Aquifers.{wells_counted, wells_same}
use Rattle.basin.specs.Sound.{sound}
use Rattle.basin.proofs.Soundness.{sound_ready, sound_wells_ready}
use Rattle.basin.proofs.Replies.{refused_reply_lem, accepted_reply}
use Rattle.basin.proofs.reply.figures.Goals as goal
use Rattle.basin.proofs.reply.figures.Goals.{In-Some}

pub returns-in_default : goal.returns-in_default
returns-in_default c = refused_reply_lem _ _ _ (sym c.in_default.ensures.value) c.no_units.ensures c.no_aquifers.ensures

is-sound : (c : In-Some) → sound (view_of c.args.b) ≡ true
is-sound c = sym c.in-Some.ensures.value

-- The counted units and aquifers are those of the balance.
same : (c : In-Some) → SameUnits (view_of c.args.b) (units_of (take c.args.b.unit_count c.args.b.units))
same c = counted_units (view_of c.args.b) c.args.b.units (omega (arith, (sound_ready _ (is-sound c)).few)) (λ k h. refl)

enough : (c : In-Some) → c.args.b.aquifer_count ≤ length c.args.b.aquifers
enough c = omega (arith, (sound_wells_ready _ (is-sound c)).few)

pub shared_ref_as_front-units : goal.shared_ref_as_front-units
shared_ref_as_front-units c = omega (arith, (sound_ready _ (is-sound (goal.at.shared_ref_as_front-units c).In-Some)).few)

pub shared_ref_as_front-aquifers : goal.shared_ref_as_front-aquifers
shared_ref_as_front-aquifers c =
    omega (arith, (sound_wells_ready _ (is-sound (goal.at.shared_ref_as_front-aquifers c).In-Some)).few)

pub new-requires : goal.new-requires
new-requires c =
    let here = (goal.at.new-requires c).In-Some in
    ready_same _ _ (same here) (sound_ready _ (is-sound here))

pub unit_figures-requires : goal.unit_figures-requires
unit_figures-requires c = rw c.new.ensures c.in-Some.ensures.amounts

pub aquifer_figures-requires : goal.aquifer_figures-requires
aquifer_figures-requires c =
    let here = (goal.at.aquifer_figures-requires c).In-Some in
    wells_counted (view_of c.args.b) c.args.b.aquifers (enough here) (λ k h. refl) (sound_wells_ready _ (is-sound here))

pub returns : goal.returns
returns c =
    let here = (goal.at.returns c).In-Some in
    accepted_reply _ _ _ (is-sound here)
    (c.unit_figures.ensures
    ∙ ap (λ (us : List Unit). all_unit_figures (units_of us)) c.new.ensures
    ∙ figures_same _ _ (same here) (sound_ready _ (is-sound here)))
    (c.aquifer_figures.ensures
    ∙ wells_same (view_of c.args.b) c.args.b.aquifers (enough here) (λ k h. refl) (sound_wells_ready _ (is-sound here)))
