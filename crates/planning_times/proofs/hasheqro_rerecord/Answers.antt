-- One record more is answered and counted, and in the end none is left. Assumes nothing.
use Rattle.std.proofs.Common.{ap, ◌∙◌}
use Rattle.planning_times.specs.Timed.{record_turn, counted}
use Rattle.planning_times.proofs.Turning.{going_on, gone_count, one_record}
use Rattle.planning_times.proofs.hasheqro_rerecord.Goals as goal

pub loop-preserved : goal.loop-preserved
loop-preserved c =
    let loop = c.loop in
    going_on record_turn c.args.times loop.counter loop.s _ loop.counts loop.invariant c.loop-test.true (one_record loop.s loop.counter) _ _
    c.record_once-counts.ensures.next c.record_once-counts.ensures.counts

pub returns : goal.returns
returns c =
    gone_count record_turn _ c.loop.counter c.loop.s _ c.loop.counts c.loop.invariant c.loop-test.false
    ∙ ap (counted record_turn c.args.times 0) c.filled-s.ensures
