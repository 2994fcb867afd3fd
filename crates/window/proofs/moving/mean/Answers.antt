-- `window::mean` meets its contract: to divide by the parts and then by the years is to divide by both. Assumes nothing.
use Rattle.std.proofs.Common.{◌≡◌, ◌∙◌, ◌+◌, ◌*◌, ◌/◌, arith}
use Rattle.std.proofs.Math.Nat.{div-div-eq-div-mul}
use Rattle.runoff.specs.Mean.{rounded}
use Rattle.window.proofs.moving.mean.Goals as goal

pub returns : goal.returns
unfolding rounded
returns c =
    let w = c.args.width in
    let sum = 2 * c.args.sum in
    let num : sum + 6000000000 * w ≡ sum + w * 6000000000 = omega arith in
    let den : 12000000000 * w ≡ 2 * (w * 6000000000) = omega arith in
    div-div-eq-div-mul (sum + 6000000000 * w) 12000000000 w ∙ (λ i. num i / den i)
