-- `planning::back_tested` meets its contract. Assumes nothing.
use Prim.Native.Nat.{◌<◌}
use mathlib.Core.Path.{sym, ap, ◌∙◌}
use mathlib.Core.Bool.{Bool}
use native.Mathlib.Omega.{arith}
use Rattle.planning.specs.Calls.{place_in}
use Rattle.planning.specs.Decision.{back_decision}
use Rattle.planning.proofs.Replying.{standing}
use Rattle.planning.proofs.Deciding.{to_within}
use Rattle.planning.proofs.calls.back_tested.Goals as goal
use Rattle.planning.proofs.calls.back_tested.Goals.{In_ok-place}

-- The place that was decided on is one of the four.
within : (c : In_ok-place) → c.in_ok-place.place < 4
within c =
    let s = c.args.s.now in
    to_within s c.args.name _
    (sym (ap (λ (t : Bool). back_decision t (place_in s c.args.name)) c.requires) ∙ sym c.in_ok-place.ensures)

pub decide_back-requires : goal.decide_back-requires
decide_back-requires c = λ e. (standing c.args.s.now (sym c.requires ∙ e)).few

pub offset_bounds-s-place : goal.offset_bounds-s-place
offset_bounds-s-place c = omega (arith, within (goal.at.offset_bounds-s-place c).In_ok-place)

pub bounds-s-place : goal.bounds-s-place
bounds-s-place c = within (goal.at.bounds-s-place c).In_ok-place
