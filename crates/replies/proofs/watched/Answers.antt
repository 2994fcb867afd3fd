-- `replies::watched` meets its contract. Assumes nothing.
use mathlib.Core.Path.{subst⁻¹}
use Rattle.std.proofs.Common.{◌≤◌, ap}
use Rattle.text.proofs.Pages.{restate}
use Rattle.window.specs.declared.Windows.{Windows}
use Rattle.requests.specs.Watched.{watched_at}
use Rattle.replies.specs.Reply.{windows_text}
use Rattle.replies.proofs.Lines.{few_windows}
use Rattle.replies.proofs.watched.Goals as goal

pub windows-requires : goal.windows-requires
windows-requires c =
    let w = watched_at c.args.s.now c.args.at in
    let few = subst⁻¹ (λ (r : Windows). r.count ≤ 181) c.windows_at.ensures (few_windows w.plots w.years w.width) in
    (few, c.requires.1)

pub returns : goal.returns
returns c = restate c.windows.ensures (ap (windows_text c.args.k) c.windows_at.ensures)
