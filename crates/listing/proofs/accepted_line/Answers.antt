-- The line is that of the call and the number.
use Rattle.text.proofs.Pages.{restate}
use Rattle.listing.proofs.Calling.{accepted_line_lem}
use Rattle.listing.proofs.accepted_line.Goals as goal

pub returns : goal.returns
returns c = restate (rw c.accepted.ensures at c.put.ensures) (accepted_line_lem _ _ _)
