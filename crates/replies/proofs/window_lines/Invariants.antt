-- The lines of the windows so far are on the page.
use Rattle.std.proofs.Common.{◌*◌}
use Rattle.text.specs.Page.{Puts}
use Rattle.listing.proofs.Rows.{lines_to}
use Rattle.replies.specs.Reply.{window_text}
use Rattle.replies.proofs.window_lines.Given as goal

abbrev pub invariant-loop-k : goal.invariant-loop-k
invariant-loop-k l = Puts (64 * l.k) l.initial.page (lines_to window_text 0 l.runoffs l.k) l.page
