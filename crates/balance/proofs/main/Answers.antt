-- What is printed ends within the buffer.
use Rattle.text.proofs.Writing.{counts}
use Rattle.balance.proofs.main.Goals as goal

pub slice_bounds-out-end : goal.slice_bounds-out-end
slice_bounds-out-end c = (counts c.print_book-m.ensures).0

pub slice_bounds-write_all-end : goal.slice_bounds-write_all-end
slice_bounds-write_all-end c = (counts c.print_book-m.ensures).1
