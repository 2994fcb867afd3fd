-- The loop's invariant: the places from i up to the number of units hold the units' outlets. Assumes nothing.
use Rattle.std.proofs.Common.{length}
use Rattle.laws.proofs.Arrays.{FilledDown}
use Rattle.river.specs.Units.{units_of}
use Rattle.reach.specs.Reach.{outlet}
use Rattle.reach.proofs.outlet.outlets.Given as goal

abbrev pub invariant-loop-i : goal.invariant-loop-i
invariant-loop-i l = FilledDown 64 0 (outlet (units_of l.units)) (length l.units) l.i l.ends
