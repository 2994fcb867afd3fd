-- What is printed ends within the buffer.
use Rattle.text.proofs.Writing.{counts}
use Rattle.book_runs.proofs.print.Goals as goal

pub slice_bounds-out-end : goal.slice_bounds-out-end
slice_bounds-out-end g c = (counts c.print_book-n.ensures).0

pub slice_bounds-write_all-end : goal.slice_bounds-write_all-end
slice_bounds-write_all-end g c = (counts c.print_book-n.ensures).1
