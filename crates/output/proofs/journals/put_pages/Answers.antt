-- A page more leaves a turn and less to write; the table is the end of it, and a page that fails is a beginning. Assumes nothing.
use native.Mathlib.Omega.{arith}
use Rattle.std.proofs.Common.{rules}
use Rattle.std.proofs.lemmas.Result.{MatchResult-from_err}
use Rattle.output.proofs.Putting.{putting_start, putting_on, putting_failed, putting_end}
use Rattle.output.proofs.Turns.{few, next_low, turn_on, turn_less}
use Rattle.output.proofs.journals.put_pages.Goals as goal

pub loop-page-init : goal.loop-page-init
loop-page-init g c =
    record {
      put = putting_start c.args.s.now (g.W.Write.contents c.args.to.now) c.args.begun.next 1 c.args.begun.state c.args.begun.more;
      turn = record { short = c.requires; place = omega arith; low = omega arith };
    }

pub overflow_cast-k : goal.overflow_cast-k
overflow_cast-k g c = omega (arith, few _ _ _ _ _ _ _ c.next_page-page.ensures)

pub overflow_add-k : goal.overflow_add-k
overflow_add-k g c = omega (arith, next_low _ _ _ _ _ _ _ c.next_page-page.ensures _ c.loop-page-test.true c.loop-page.invariant.turn)

pub loop-page-smaller : goal.loop-page-smaller
loop-page-smaller g c = turn_less _ _ _ _ _ _ _ c.next_page-page.ensures _ c.loop-page-test.true c.loop-page.invariant.turn

pub loop-page-preserved : goal.loop-page-preserved
loop-page-preserved g c =
    record {
      put = putting_on _ _ _ _ _ _ _ _ c.loop-page.invariant.put _ c.loop-page-test.true _ c.next_page-page.ensures c.in_ok-write_full.ensures;
      turn = turn_on _ _ _ _ _ _ _ c.next_page-page.ensures _ c.loop-page-test.true c.loop-page.invariant.turn;
    }

pub returns-in_err-write_full : goal.returns-in_err-write_full
returns-in_err-write_full g c =
    MatchResult-from_err c.from_residual.result _ _ (search rules)
    (λ _. putting_failed _ _ _ _ _ _ _ _ c.loop-page.invariant.put _ c.loop-page-test.true _ c.next_page-page.ensures c.in_err-write_full.ensures)

pub returns : goal.returns
returns g c =
    putting_end _ _ _ _ _ _ _ _ c.loop-page.invariant.put c.loop-page-test.false c.table-length.ensures _ c.write_full-2.result c.write_full-2.ensures
