-- The sum is that of the years so far.
use Rattle.std.proofs.Common.{◌≡◌, take}
use Rattle.window.specs.Moving.{years_on}
use Rattle.window.proofs.moving.sum_of.Given as goal

abbrev pub invariant-loop-year : goal.invariant-loop-year
invariant-loop-year l = l.sum ≡ years_on l.soils (take l.year-index l.tenths)
