-- The space and then the digits.
use Rattle.std.proofs.Common.{◌∙◌, arith}
use Rattle.text.proofs.Pages.{restate, then, widen}
use Rattle.text.proofs.Page.spaced.Goals as goal

pub returns : goal.returns
returns g c =
    let digits = restate c.word.ensures (c.as_bytes.ensures.value ∙ c.format.ensures.text) in
    widen (then c.byte.ensures digits) (omega (arith, c.as_bytes.ensures.len, c.format.ensures.fits))
