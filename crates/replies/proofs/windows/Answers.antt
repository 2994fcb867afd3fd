-- `replies::windows` meets its contract. Assumes nothing.
use Rattle.std.proofs.Common.{◌∙◌, ap, arith}
use Rattle.text.proofs.Pages.{then, widen, restate}
use Rattle.report.specs.Calls.{count_line}
use Rattle.replies.proofs.Lines.{lines_taken, told_line}
use Rattle.replies.proofs.windows.Goals as goal

pub returns : goal.returns
returns c =
    let w = c.args.windows.now in
    let own = restate c.put.ensures (ap (count_line c.args.k) c.count.ensures ∙ told_line c.args.k w.answer w.count) in
    widen (then own (restate c.window_lines.ensures (lines_taken _ _ (omega arith)))) (omega arith)
