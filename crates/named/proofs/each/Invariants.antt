-- Each file so far was handed over and taken.
use Rattle.std.proofs.Common.{length}
use Rattle.named.specs.Handed.{TakesAll}
use Rattle.named.proofs.each.Given as goal

abbrev pub invariant-loop-i : goal.invariant-loop-i
invariant-loop-i g l = goal.F-IsAlwaysCallable g l.take × TakesAll g.F.FnMut (length l.fn.room) l.fn.take l.take
