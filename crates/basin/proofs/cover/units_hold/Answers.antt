-- `basin::units_hold` meets its contract. Assumes nothing.
use borrow.Author.Tests.{tests}
use Rattle.std.proofs.Common.{rules}
use Rattle.basin.specs.Sound.{unit_holds}
use Rattle.basin.proofs.Everywhere.{every_from_all}
use Rattle.basin.proofs.cover.units_hold.Goals as goal

pub returns : goal.returns
returns c =
    every_from_all (unit_holds c.args.units.now c.args.sums.now) _ _ _ c.all.ensures.ran (λ x b q k. search (rules, tests))
