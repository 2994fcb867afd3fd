-- `figures::aquifer_figures` meets its contract. The loop's invariant: the first i aquifers have their figures. Assumes nothing.
use Rattle.laws.proofs.Arrays.{Filled}
use Rattle.figures.specs.Figures.{aquifers_of, aquifer_figures, no_aquifer_figures}
use Rattle.figures.proofs.figures.aquifer_figures.Given as goal

abbrev pub invariant-loop-i : goal.invariant-loop-i
invariant-loop-i l = Filled 32 no_aquifer_figures (aquifer_figures (aquifers_of l.aquifers)) l.i l.all
