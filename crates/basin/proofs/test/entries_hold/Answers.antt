-- `basin::entries_hold` meets its contract. The loop's invariant: each of the places so far is sound, and they are added up. Assumes nothing.
use Prim.Native.Nat.{◌<◌}
use mathlib.Core.Path.{◌≡◌, refl, sym, ap, ◌∙◌}
use mathlib.Core.Bool.{Bool, false, ◌&&◌}
use native.Mathlib.Omega.{arith}
use borrow.Author.Count.{below_none, below_more}
use lib.ListN.{get_or, take, length-take}
use lib.Seq.{get_or-take, length-take-le}
use Rattle.laws.proofs.Every.{each_every, every_fails}
use Rattle.model.specs.declared.Place.{Place}
use Rattle.model.specs.Fresh.{empty_place}
use Rattle.model.specs.View.{View, view_of}
use Rattle.titles.specs.Titled.{TitledAll}
use Rattle.titles.proofs.Raising.{all_none, all_have_room, all_more, all_kept}
use Rattle.basin.specs.Sound.{sound_place, sound_titles, aquifers_hold}
use Rattle.basin.proofs.Chains.{go, first_fails}
use Rattle.basin.proofs.Order.{Few, few_of, units_hold_lem, aquifers_hold_lem, in_force_lem, cancelled}
use Rattle.basin.proofs.test.entries_hold.Goals as goal
use Rattle.basin.proofs.test.entries_hold.Goals.{After-loop-title, After-aquifers_hold, In-loop-title, Start, Then-not-title_sound, then-in_force+else-not-title_sound, else-in_force}

-- The view of the balance, and its counts.
abbrev view : Start → View
view c = view_of c.args.b.now

few : (c : Start) → Few (view c)
few c = few_of (view c) c.requires

-- The place that the loop is at.
abbrev place : In-loop-title → Place
place c = get_or (take c.args.b.now.given c.args.b.now.titles) c.loop-title.title-index empty_place

inside : (c : In-loop-title) → c.loop-title.title-index < c.args.b.now.given
inside c = omega (arith, length-take c.args.b.now.given c.args.b.now.titles, c.loop-title-test.true)

same : (c : In-loop-title) → place c ≡ get_or c.args.b.now.titles c.loop-title.title-index empty_place
same c = get_or-take c.args.b.now.given c.args.b.now.titles c.loop-title.title-index empty_place (inside c)

pub loop-title-init : goal.loop-title-init
loop-title-init c = (below_none _, rw c.none-sums.ensures (all_none _))

-- What the test of a title says of its place.
place-tested : (c : Then-not-title_sound)
    → false ≡ sound_place c.args.b.now.unit_count c.args.b.now.aquifer_count (get_or c.args.b.now.titles c.loop-title.title-index empty_place)
place-tested c =
    let b = c.args.b.now in
    let l = (goal.at.Then-not-title_sound c).In-loop-title in
    sym c.if-not-title_sound.true ∙ c.title_sound.ensures ∙ sym (in_force_lem b.unit_count b.aquifer_count (place l) _ c.if-in_force.true refl)
    ∙ ap (sound_place b.unit_count b.aquifer_count) (same l)

pub returns-then-not-title_sound : goal.returns-then-not-title_sound
returns-then-not-title_sound c =
    let l = (goal.at.returns-then-not-title_sound c).In-loop-title in
    let t = (goal.at.returns-then-not-title_sound c).Then-not-title_sound in
    sym (first_fails _ _ (every_fails _ _ _ (inside l) (sym (place-tested t))))

pub add-requires : goal.add-requires
add-requires c =
    let l = (goal.at.add-requires c).In-loop-title in
    all_have_room _ l.loop-title.title-index _ (omega (arith, inside l, (few (goal.at.add-requires c).Start).given)) l.loop-title.invariant.1

pub loop-title-preserved : goal.loop-title-preserved
loop-title-preserved c =
    let b = c.args.b.now in
    let at = (goal.at.loop-title-preserved c).In-loop-title in
    let l = c.loop-title in
    let is : place at ≡ get_or b.titles l.title-index empty_place = same at in
    elim c.if-in_force.branch [
      | then-in_force+else-not-title_sound w ↦
          let tested = sym (ap (sound_place b.unit_count b.aquifer_count) is) ∙ in_force_lem b.unit_count b.aquifer_count (place at) _ w.if-in_force.true (sym w.title_sound.ensures) in (
            below_more _ _ l.invariant.0 (tested ∙ w.if-not-title_sound.false),
            rw w.sums-is (all_more _ l.title-index _ _ _ is w.if-in_force.true l.invariant.1 w.add.ensures),
          )
      | else-in_force w ↦ (
        below_more _ _ l.invariant.0 (sym (ap (sound_place b.unit_count b.aquifer_count) is) ∙ cancelled b.unit_count b.aquifer_count (place at) w.if-in_force.false),
        rw w.sums-is (all_kept _ l.title-index _ _ is w.if-in_force.false (omega (arith, inside at, (few (goal.at.loop-title-preserved c).Start).given)) l.invariant.1),
      )
    ]

-- After the loop every title is sound, and all of them are added up.
ended : (c : After-loop-title) → c.loop-title.title-index ≡ c.args.b.now.given
ended c =
    omega (arith, length-take-le c.args.b.now.given c.args.b.now.titles (omega (arith, (few (goal.at.After-loop-title c).Start).given)), c.loop-title-test.false)

past-titles : (c : After-loop-title) (r x : Bool) → r ≡ x → r ≡ (sound_titles (view (goal.at.After-loop-title c).Start) && x)
past-titles c r x e = go _ x r (each_every _ _ (λ k h. c.loop-title.invariant.0 k (omega (arith, ended c)))) e

added : (c : After-loop-title) → TitledAll c.args.b.now.titles c.args.b.now.given c.loop-title.sums
added c = rw (← ended c) c.loop-title.invariant.1

-- What the tests of the aquifers say.
aquifers-tested : (c : After-aquifers_hold) → c.aquifers_hold.result ≡ aquifers_hold (view (goal.at.After-aquifers_hold c).Start)
aquifers-tested c =
    let f = few (goal.at.After-aquifers_hold c).Start in
    c.aquifers_hold.ensures ∙ aquifers_hold_lem c.args.b.now _ (added (goal.at.After-aquifers_hold c).After-loop-title) f.aquifers (omega (arith, f.aquifers))

pub returns-then-aquifers_hold : goal.returns-then-aquifers_hold
returns-then-aquifers_hold c =
    let f = few (goal.at.returns-then-aquifers_hold c).Start in
    let l = (goal.at.returns-then-aquifers_hold c).After-loop-title in
    past-titles l _ _
    (go _ _ _ (sym (aquifers-tested (goal.at.returns-then-aquifers_hold c).After-aquifers_hold) ∙ c.if-aquifers_hold.true)
    (c.units_hold.ensures ∙ units_hold_lem c.args.b.now _ (added l) f.units (omega (arith, f.units))))

pub returns-else-aquifers_hold : goal.returns-else-aquifers_hold
returns-else-aquifers_hold c =
    let t = (goal.at.returns-else-aquifers_hold c).After-aquifers_hold in
    past-titles (goal.at.returns-else-aquifers_hold c).After-loop-title _ _
    (c.if-aquifers_hold.false ∙ sym (first_fails _ _ (sym (aquifers-tested t) ∙ c.if-aquifers_hold.false)))
