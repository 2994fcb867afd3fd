-- `figures::of_aquifer` meets its contract. Assumes nothing.
use Rattle.std.proofs.Common.{◌≡◌, ◌∙◌, arith}
use Rattle.laws.specs.Signed.{above, below}
use Rattle.laws.proofs.Signs.{whole_ok}
use Rattle.laws.proofs.Parts.{parts_fit, above_read, below_read}
use Rattle.figures.proofs.Aquifers.{recharge_is, available_is}
use Rattle.figures.proofs.figures.of_aquifer.Goals as goal

pub returns : goal.returns
returns c =
    let a = c.args.a.now in
    let fits = parts_fit a.storage (omega arith) (omega arith) in
    let rise : c.above.result ≡ above a.storage = above_read a.storage fits c.above.ensures in
    let fall : c.below-fall.result ≡ below a.storage = below_read a.storage fits c.below-fall.ensures in
    let gained = rw (c.from.ensures, c.from-2.ensures) at c.difference.ensures in
    let left = rw (c.from.ensures, c.from-2.ensures, c.from-3.ensures, c.from-4.ensures) at c.difference-2.ensures in λ i.
    record {
      recharge = (whole_ok _ c.difference.type_inv ∙ gained ∙ recharge_is a _ _ rise fall) i;
      availability = (whole_ok _ c.difference-2.type_inv ∙ left ∙ available_is a _ _ rise fall) i;
    }
