-- What was written and what is left are all that there was to write, and the places of the records stay small. Assumes nothing.
use Rattle.output.specs.Left.{left_text}
use Rattle.output.proofs.Putting.{Putting}
use Rattle.output.proofs.Turns.{Turn, left}
use Rattle.output.proofs.journals.put_pages.Given as goal

abbrev pub invariant-loop-page : goal.invariant-loop-page
invariant-loop-page g l =
    record {
      put : Putting l.s (left_text l.s l.fn.begun.next 1 l.fn.begun.state l.fn.begun.more) (g.W.Write.contents l.initial.to) (g.W.Write.contents l.to) l.page.next l.k l.page.state l.page.more;
      turn : Turn l.s l.page.next l.k l.page.more;
    }

abbrev pub decreases-loop-page : goal.decreases-loop-page
decreases-loop-page g l = left l.s l.page.next l.page.more
