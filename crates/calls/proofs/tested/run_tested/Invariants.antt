-- `calls::run_tested` meets its contract: what is left gives what the calls of the book give, and each record takes bytes. Assumes nothing.
use Rattle.std.proofs.Common.{◌≡◌, ◌-◌, length}
use Rattle.model.specs.View.{view_of}
use Rattle.basin.specs.Sound.{sound}
use Rattle.calls.specs.Running.{ran}
use Rattle.calls.proofs.tested.run_tested.Given as goal

abbrev pub invariant-loop-refusal : goal.invariant-loop-refusal
invariant-loop-refusal l = (ran l.s l.at l.b ≡ ran l.s l.initial.at l.initial.b) × (l.sound ≡ sound (view_of l.b))

abbrev pub decreases-loop-refusal : goal.decreases-loop-refusal
decreases-loop-refusal l = length l.s - l.at
