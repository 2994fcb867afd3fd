-- `planning::keep_apart` meets its contract. Assumes nothing.
use Prim.Native.Nat.{◌<◌}
use mathlib.Core.Path.{sym, ap, ◌∙◌}
use mathlib.Core.Bool.{Bool}
use Rattle.std.specs.Prelude.{Ok}
use native.Mathlib.Omega.{arith}
use Rattle.planning.specs.Calls.{with_current, place_in}
use Rattle.planning.specs.Decision.{keep_decision}
use Rattle.planning.proofs.Replying.{standing}
use Rattle.planning.proofs.Deciding.{again_within}
use Rattle.planning.proofs.calls.keep_apart.Goals as goal
use Rattle.planning.proofs.calls.keep_apart.Goals.{In-Some}

-- The place that was decided on is one of the four.
within : (c : In-Some) → c.in-Some.place < 4
within c =
    let s = with_current c.args.s.now c.args.balance in
    again_within s c.args.name _
    (sym (ap (λ (t : Bool). keep_decision t (place_in s c.args.name) s.count) c.requires) ∙ sym c.in_ok-place.ensures ∙ ap Ok c.in-Some.is)

pub decide_keep-requires : goal.decide_keep-requires
decide_keep-requires c = λ e. (standing (with_current c.args.s.now c.args.balance) (sym c.requires ∙ e)).few

pub offset_bounds-s-place : goal.offset_bounds-s-place
offset_bounds-s-place c = omega (arith, within (goal.at.offset_bounds-s-place c).In-Some)

pub bounds-s-place : goal.bounds-s-place
bounds-s-place c = within (goal.at.bounds-s-place c).In-Some
