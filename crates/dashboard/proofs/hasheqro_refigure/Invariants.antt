-- So many times are counted so far. Assumes nothing.
use Rattle.std.proofs.Common.{◌*◌, ◌≤◌, ◌≡◌}
use Rattle.dashboard.specs.Table.{figured}
use Rattle.dashboard.proofs.hasheqro_refigure.Given as goal

abbrev pub invariant-loop : goal.invariant-loop
invariant-loop l = (l.count ≤ l.counter) × (l.count ≡ l.counter * figured l.b)
