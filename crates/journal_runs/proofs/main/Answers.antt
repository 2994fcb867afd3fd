-- The room is lent whole.
use Rattle.output.proofs.Buffers.{zeros}
use Rattle.journal_runs.proofs.main.Goals as goal

pub slice_bounds-each-end : goal.slice_bounds-each-end
slice_bounds-each-end c = zeros 1048577
