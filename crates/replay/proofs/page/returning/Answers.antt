-- `replay::returning` meets its contract. Assumes nothing.
use Prim.Native.Nat.{◌<◌}
use mathlib.Core.Path.{sym, ◌∙◌}
use native.Mathlib.Omega.{arith}
use Rattle.planning.specs.Calls.{with_current}
use Rattle.planning.proofs.Replying.{standing}
use Rattle.planning.proofs.Deciding.{to_within}
use Rattle.replay.proofs.Steps.{back_said}
use Rattle.replay.proofs.page.returning.Goals as goal
use Rattle.replay.proofs.page.returning.Goals.{In-Ok}

pub decide_back-requires : goal.decide_back-requires
decide_back-requires c = λ e. (standing (with_current c.args.kept.now c.args.balance.now) (sym c.whole_sound-tested.ensures.value ∙ e)).few

-- The place to go back to is one of the four.
within : (c : In-Ok) → c.in-Ok.place < 4
within c =
    let cur = with_current c.args.kept.now c.args.balance.now in
    to_within cur c.args.name _ (sym (back_said _ cur c.whole_sound-tested.ensures.value c.args.name _ c.decide_back.ensures) ∙ c.in-Ok.is)

pub offset_bounds-kept-place : goal.offset_bounds-kept-place
offset_bounds-kept-place c = omega (arith, within (goal.at.offset_bounds-kept-place c).In-Ok)

pub bounds-kept-place : goal.bounds-kept-place
bounds-kept-place c = within (goal.at.bounds-kept-place c).In-Ok
