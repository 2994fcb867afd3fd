-- The windows before this one have their means, and the sum is this one's.
use Rattle.std.proofs.Common.{◌≡◌}
use Rattle.laws.proofs.Arrays.{Filled}
use Rattle.window.specs.Window.{window_limit}
use Rattle.window.specs.Moving.{window_sum, mean_at}
use Rattle.window.proofs.moving.means.Given as goal

abbrev pub invariant-loop-first : goal.invariant-loop-first
invariant-loop-first l =
    record {
      filled : Filled window_limit 0 (mean_at l.soils l.tenths l.width) l.first l.means;
      sum : l.sum ≡ window_sum l.soils l.tenths l.width l.first;
    }
