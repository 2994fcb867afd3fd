-- `window::moving_windows` meets its contract. Assumes nothing.
use Rattle.std.proofs.Common.{◌≡◌, ◌∙◌, sym, ap, Ok}
use Rattle.laws.specs.Table.{table}
use Rattle.model.specs.Answers.{Answer}
use Rattle.runoff.specs.declared.Soils.{Soils}
use Rattle.window.specs.Window.{window_runoff, window_count, window_limit, replied}
use Rattle.window.specs.Moving.{means_of}
use Rattle.window.specs.Handed.{Handed}
use Rattle.window.proofs.Accepted.{accepted_handed}
use Rattle.window.proofs.Means.{handed_movable, means_runoffs}
use Rattle.window.proofs.moving_windows.Goals as goal
use Rattle.window.proofs.moving_windows.Goals.{In-Ok}

handed : (c : In-Ok) → Handed c.args.plots.now c.args.tenths.now c.args.width
handed c = accepted_handed c.args.plots.now c.args.tenths.now c.args.width c.in-Ok.ensures.0

pub means-requires : goal.means-requires
means-requires c = rw c.in-Ok.ensures.1 (handed_movable c.args.plots.now c.args.tenths.now c.args.width (handed (goal.at.means-requires c).In-Ok))

pub returns-in-Ok : goal.returns-in-Ok
returns-in-Ok c =
    let plots = c.args.plots.now in
    let years = c.args.tenths.now in
    let width = c.args.width in
    let runoffs : c.means.result ≡ table window_limit 0 (window_count years width) (window_runoff plots years width) =
    c.means.ensures ∙ ap (λ (s : Soils). means_of s years width) c.in-Ok.ensures.1
    ∙ means_runoffs plots years width (handed (goal.at.returns-in-Ok c).In-Ok)
    in
    (λ i. record { answer = Ok tt; number = 0; count = window_count years width; runoffs = runoffs i })
    ∙ sym (ap (λ (a : Answer). replied a plots years width) c.in-Ok.ensures.0)
