-- `Amounts::of` meets its contract. The loop's invariant: the first i units are passed. Assumes nothing.
use Rattle.river.specs.Units.{units_of}
use Rattle.river.proofs.Passing.{Passed}
use Rattle.river.proofs.flow.Amounts.of.Given as goal

abbrev pub invariant-loop-i : goal.invariant-loop-i
invariant-loop-i l = Passed (units_of l.units) l.i l.amounts
