-- The lines of the rows so far are on the page.
use Rattle.std.proofs.Common.{◌*◌}
use Rattle.text.specs.Page.{Puts}
use Rattle.listing.proofs.Rows.{lines_to}
use Rattle.listing.proofs.lines.Given as goal

abbrev pub invariant-loop-k : goal.invariant-loop-k
invariant-loop-k g l = Puts (128 * l.k) l.initial.page (lines_to g.T.Row.line g.T.Row.none l.rows l.k) l.page
