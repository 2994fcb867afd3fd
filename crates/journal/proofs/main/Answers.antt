-- What was read ends within the buffer.
use Rattle.output.proofs.Buffers.{zeros}
use Rattle.journal.proofs.main.Goals as goal

pub slice_bounds-read_full-end : goal.slice_bounds-read_full-end
slice_bounds-read_full-end c = zeros 1048577

pub slice_bounds-journal-end : goal.slice_bounds-journal-end
slice_bounds-journal-end c = c.in_ok-n.ensures.bound.0

pub slice_bounds-put_journal-end : goal.slice_bounds-put_journal-end
slice_bounds-put_journal-end c = c.in_ok-n.ensures.bound.1
