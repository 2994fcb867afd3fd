-- `first_plots` meets its contract. Assumes nothing.
use Rattle.std.proofs.Common.{arith}
use Rattle.requests.proofs.Reading.{filled_first}
use Rattle.requests.proofs.watched.first_plots.Goals as goal

pub returns : goal.returns
returns c = filled_first 17 _ _ c.loop-k.k c.loop-k.plots c.loop-k.invariant c.args.n c.loop-k-test.false (omega arith)
