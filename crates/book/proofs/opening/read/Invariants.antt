-- `book::read` meets its contract: what was read so far, with what is left, gives what the book gives, and each record takes bytes. Assumes nothing.
use Rattle.std.proofs.Common.{◌-◌, length}
use Rattle.book.proofs.Following.{Reached}
use Rattle.book.proofs.opening.read.Given as goal

abbrev pub invariant-loop-b : goal.invariant-loop-b
invariant-loop-b l = Reached l.s l.b l.p.open l.p.units l.p.aquifers l.at

abbrev pub decreases-loop-b : goal.decreases-loop-b
decreases-loop-b l = length l.s - l.at
