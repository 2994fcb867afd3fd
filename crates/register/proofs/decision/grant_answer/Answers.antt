-- `register::grant_answer` meets its contract. Assumes nothing.
use Prim.Native.Nat.{◌≤◌}
use mathlib.Core.Path.{◌≡◌, refl, sym, ap, ◌∙◌}
use lib.ListN.{length, take, length-take}
use native.Mathlib.Omega.{arith}
use Rattle.std.proofs.Common.{rules, Ok, Err}
use Rattle.model.specs.View.{view_of}
use Rattle.basin.proofs.Soundness.{Soundness, soundness, sound_ready}
use Rattle.effect.specs.Granted.{granted}
use Rattle.refusal.specs.Grant.{no_water}
use Rattle.refusal.specs.Steps.{early_fault, entries_of}
use Rattle.register.specs.declared.Reply.{Reply}
use Rattle.register.proofs.Replies.{grantable_of, reply_early, reply_dry, reply_given}
use Rattle.river.proofs.Units.{counted_units, ready_same}
use Rattle.register.proofs.Trial.{length_raised, length_drawn, early_counted, trial, counted_water}
use Rattle.register.proofs.decision.grant_answer.Goals as goal
use Rattle.register.proofs.decision.grant_answer.Goals.{Start, After-early, After-no_water, In_ok-early}

few : (c : Start) → Soundness (view_of c.args.b.now)
few c = soundness (view_of c.args.b.now) c.requires

pub shared_ref_as_front-new : goal.shared_ref_as_front-new
shared_ref_as_front-new c = (few c).few_units

pub new-tree-requires : goal.new-tree-requires
new-tree-requires c =
    let b = c.args.b.now in
    let f = few (goal.at.new-tree-requires c).Start in
    let units : b.unit_count ≤ length b.units = omega (arith, length-take b.unit_count b.units, f.few_units) in
    ready_same _ _ (counted_units (view_of b) b.units units (λ k h. refl)) (sound_ready (view_of b) c.requires)

pub shared_ref_as_front-early : goal.shared_ref_as_front-early
shared_ref_as_front-early c = (few (goal.at.shared_ref_as_front-early c).Start).few_aquifers

pub early-requires : goal.early-requires
early-requires c = omega (arith, (few (goal.at.early-requires c).Start).few_aquifers)

-- What the early refusals answer.
early-answer : (c : After-early) → c.early.result ≡ early_fault (view_of c.args.b.now) c.args.t
early-answer c =
    let b = c.args.b.now in
    let f = few (goal.at.After-early c).Start in
    let units : b.unit_count ≤ length b.units = omega (arith, length-take b.unit_count b.units, f.few_units) in
    let wells : b.aquifer_count ≤ length b.aquifers = omega (arith, length-take b.aquifer_count b.aquifers, f.few_aquifers) in
    rw c.new-tree.ensures at c.early.ensures ∙ early_counted b units wells (sound_ready (view_of b) c.requires) c.args.t

none_early : (c : In_ok-early) → early_fault (view_of c.args.b.now) c.args.t ≡ Ok tt
none_early c = let e = early-answer (goal.at.In_ok-early c).After-early in search rules

pub returns-in_err-early : goal.returns-in_err-early
returns-in_err-early c =
    let b = c.args.b.now in
    let r = c.in_err-early.field-0.0 in
    let q = early-answer (goal.at.returns-in_err-early c).After-early in
    let e : early_fault (view_of b) c.args.t ≡ Err r = search rules in
    let a : c.from_residual.result ≡ Err r = search rules in
    a ∙ ap (λ (x : Reply). x.answer) (reply_early b c.args.t r c.requires e)

pub raised_units-raised-requires : goal.raised_units-raised-requires
raised_units-raised-requires c =
    (grantable_of c.args.b.now c.args.t c.requires (none_early (goal.at.raised_units-raised-requires c).In_ok-early)).units

pub raised_wells-drawn-requires : goal.raised_wells-drawn-requires
raised_wells-drawn-requires c =
    (grantable_of c.args.b.now c.args.t c.requires (none_early (goal.at.raised_wells-drawn-requires c).In_ok-early)).wells

pub slice_bounds-raised-end : goal.slice_bounds-raised-end
slice_bounds-raised-end c = omega (arith, (few (goal.at.slice_bounds-raised-end c).Start).few_units)

pub slice_bounds-new-end-2 : goal.slice_bounds-new-end-2
slice_bounds-new-end-2 c =
    omega (arith, length-take c.args.b.now.unit_count c.raised_units-raised.result, (few (goal.at.slice_bounds-new-end-2 c).Start).few_units)

pub slice_bounds-drawn-end : goal.slice_bounds-drawn-end
slice_bounds-drawn-end c = omega (arith, (few (goal.at.slice_bounds-drawn-end c).Start).few_aquifers)

pub slice_bounds-no_water-end : goal.slice_bounds-no_water-end
slice_bounds-no_water-end c =
    omega (arith, length-take c.args.b.now.aquifer_count c.raised_wells-drawn.result, (few (goal.at.slice_bounds-no_water-end c).Start).few_aquifers)

-- The units with the title in make a tree, and what the title names is there.
pub new-tried-requires : goal.new-tried-requires
new-tried-requires c =
    let b = c.args.b.now in
    let units : length b.units ≡ 64 = omega (arith, length_raised c.args.t b.units, ap length c.raised_units-raised.ensures) in
    let wells : length b.aquifers ≡ 32 = omega (arith, length_drawn c.args.t b.aquifers, ap length c.raised_wells-drawn.ensures) in
    let t = trial b c.args.t units wells c.requires (none_early (goal.at.new-tried-requires c).In_ok-early) in
    rw c.raised_units-raised.ensures t.0

pub no_water-requires : goal.no_water-requires
no_water-requires c =
    let b = c.args.b.now in
    let units : length b.units ≡ 64 = omega (arith, length_raised c.args.t b.units, ap length c.raised_units-raised.ensures) in
    let wells : length b.aquifers ≡ 32 = omega (arith, length_drawn c.args.t b.aquifers, ap length c.raised_wells-drawn.ensures) in
    let t = trial b c.args.t units wells c.requires (none_early (goal.at.no_water-requires c).In_ok-early) in
    rw (c.new-tried.ensures, c.raised_units-raised.ensures, c.raised_wells-drawn.ensures) (t.1, t.2)

-- What the water of the title says of the balance.
water : (c : After-no_water) → c.no_water.result ≡ no_water (granted (view_of c.args.b.now) c.args.t) c.args.t
water c =
    let b = c.args.b.now in
    let units : length b.units ≡ 64 = omega (arith, length_raised c.args.t b.units, ap length c.raised_units-raised.ensures) in
    let wells : length b.aquifers ≡ 32 = omega (arith, length_drawn c.args.t b.aquifers, ap length c.raised_wells-drawn.ensures) in
    rw c.new-tried.ensures at c.no_water.ensures
    ∙ (λ i. no_water (entries_of (take b.unit_count (c.raised_units-raised.ensures i)) (take b.aquifer_count (c.raised_wells-drawn.ensures i)) 0) c.args.t)
    ∙ counted_water b c.args.t units wells c.requires (none_early (goal.at.After-no_water c).In_ok-early)

pub returns-then-no_water : goal.returns-then-no_water
returns-then-no_water c =
    let start = c in
    ap (λ (r : Reply). r.answer) (reply_dry start.args.b.now start.args.t start.requires (none_early (goal.at.returns-then-no_water c).In_ok-early)
    (sym (water (goal.at.returns-then-no_water c).After-no_water) ∙ c.if-no_water.true))

pub returns : goal.returns
returns c =
    let start = c in
    ap (λ (r : Reply). r.answer) (reply_given start.args.b.now start.args.t start.requires (none_early (goal.at.returns c).In_ok-early)
    (sym (water (goal.at.returns c).After-no_water) ∙ c.if-no_water.false))
