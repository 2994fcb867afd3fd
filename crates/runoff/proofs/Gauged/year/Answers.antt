-- `runoff::Gauged::year` meets its contract. Assumes nothing.
use Rattle.std.proofs.Common.{arith}
use Rattle.std.proofs.lemmas.Int.{ints}
use Rattle.runoff.proofs.Gauged.year.Goals as goal

pub returns : goal.returns
returns c = omega (arith, ints)
