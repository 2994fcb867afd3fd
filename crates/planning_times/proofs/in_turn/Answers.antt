-- One call more is made and counted, and in the end none is left. Assumes nothing.
use Rattle.std.proofs.Common.{◌<◌, ◌^◌, arith}
use Rattle.planning_times.proofs.Turning.{going_start, going_on, gone_state, gone_count}
use Rattle.planning_times.proofs.in_turn.Goals as goal

pub loop-i-init : goal.loop-i-init
loop-i-init g c = going_start g.turn c.args.times c.args.s.now

pub loop-i-preserved : goal.loop-i-preserved
loop-i-preserved g c =
    let loop = c.loop-i in
    let low : loop.i < 2 ^ 64 = omega arith in
    going_on g.turn c.args.times loop.i loop.s _ loop.counts loop.invariant c.loop-i-test.true (c.requires.1.1.one loop.s loop.i) _ _
    (c.requires.1.1.next _ _ _ _ low c.call-counts.ensures) (c.requires.1.1.counts _ _ _ _ low c.call-counts.ensures)

pub returns-clause-state : goal.returns-clause-state
returns-clause-state g c = gone_state g.turn _ c.loop-i.i c.loop-i.s _ c.loop-i.counts c.loop-i.invariant c.loop-i-test.false

pub returns-clause-counts : goal.returns-clause-counts
returns-clause-counts g c = gone_count g.turn _ c.loop-i.i c.loop-i.s _ c.loop-i.counts c.loop-i.invariant c.loop-i-test.false
