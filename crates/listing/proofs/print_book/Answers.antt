-- What was put on the page stands from the start of the buffer on.
use Rattle.std.proofs.Common.{arith}
use Rattle.text.proofs.Pages.{on_buffer}
use Rattle.text.proofs.Writing.{widen}
use Rattle.listing.proofs.print_book.Goals as goal

pub returns : goal.returns
returns c = rw c.len.ensures (widen (on_buffer c.book_lines.ensures c.new-page.ensures) (omega arith))
