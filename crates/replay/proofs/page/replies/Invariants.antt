-- The loop over the records of a page. Assumes nothing.
use Prim.Native.Nat.{◌-◌}
use mathlib.Core.Path.{◌≡◌}
use Rattle.text.specs.Page.{page_len}
use Rattle.planning.specs.Calls.{with_current}
use Rattle.replay.proofs.Replaying.{Going}
use Rattle.replay.proofs.Steps.{Tested}
use Rattle.replay.proofs.page.replies.Given as goal

abbrev pub invariant-loop-count : goal.invariant-loop-count
invariant-loop-count l =
    record {
      going : Going l.s l.from l.first l.most l.fn.state l.initial.page l.page (with_current l.kept l.balance) l.next l.count;
      used : l.used ≡ page_len l.page;
      tested : Tested l.sound l.whole (with_current l.kept l.balance);
    }

abbrev pub decreases-loop-count : goal.decreases-loop-count
decreases-loop-count l = l.most - l.count
