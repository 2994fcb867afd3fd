-- `windows_at` meets its contract. Assumes nothing.
use Rattle.std.proofs.Common.{◌≡◌, ◌∙◌, ◌+◌, ◌*◌, min}
use Rattle.record.specs.Bytes.{bits8}
use Rattle.window.specs.Window.{windows_reply}
use Rattle.requests.specs.Watched.{plots_told, years_told, plots_after, years_from}
use Rattle.requests.proofs.Reading.{read_alike}
use Rattle.requests.proofs.watched.windows_at.Goals as goal

pub returns : goal.returns
returns c =
    let s = c.args.s.now in
    let at = c.args.at in
    let plots : c.min-plots.result ≡ min (plots_told s at) 17 = c.min-plots.ensures ∙ (λ i. min ((c.from-told.ensures ∙ c.bits8.ensures) i) 17) in
    let years : c.min-years.result ≡ min (years_told s at) 201 = c.min-years.ensures ∙ (λ i. min ((c.from.ensures ∙ c.bits16.ensures.value) i) 201) in
    c.moving_windows.ensures
    ∙ (λ i. windows_reply (c.first_plots.ensures i) (c.first_years.ensures i) ((c.from-2.ensures ∙ c.bits8-2.ensures) i))
    ∙ (λ i.
    windows_reply (plots_after s at (plots i)) (years_from s (at + 6 + 6 * ((c.from-told.ensures ∙ c.bits8.ensures) i)) (years i))
    (bits8 s (at + 2)))
    ∙ read_alike s at
