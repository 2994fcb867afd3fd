-- So far the calls were made. Assumes nothing.
use Rattle.planning_times.proofs.Turning.{Going}
use Rattle.planning_times.proofs.in_turn.Given as goal

abbrev pub invariant-loop-i : goal.invariant-loop-i
invariant-loop-i g l = Going g.turn l.times l.initial.s l.i l.counts l.s
