-- `figures::unit_figures` meets its contract. The loop's invariant: the units from i on have their figures. Assumes nothing.
use Rattle.std.proofs.Common.{length}
use Rattle.laws.proofs.Arrays.{FilledDown}
use Rattle.river.specs.Units.{units_of}
use Rattle.figures.specs.Figures.{unit_figures, no_unit_figures}
use Rattle.figures.proofs.figures.unit_figures.Given as goal

abbrev pub invariant-loop-i : goal.invariant-loop-i
invariant-loop-i l = FilledDown 64 no_unit_figures (unit_figures (units_of l.units)) (length l.units) l.i l.all
