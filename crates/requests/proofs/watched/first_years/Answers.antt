-- `first_years` meets its contract. Assumes nothing.
use Rattle.std.proofs.Common.{arith}
use Rattle.laws.proofs.Arrays.{filled_start}
use Rattle.requests.proofs.Reading.{filled_first}
use Rattle.requests.proofs.watched.first_years.Goals as goal

pub loop-k-init : goal.loop-k-init
loop-k-init c = filled_start 201 0 _

pub returns : goal.returns
returns c = filled_first 201 0 _ c.loop-k.k c.loop-k.years c.loop-k.invariant c.args.n c.loop-k-test.false (omega arith)
