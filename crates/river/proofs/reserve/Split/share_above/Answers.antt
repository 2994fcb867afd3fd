-- `Split::share_above` meets its contract. Assumes nothing.
use Rattle.std.proofs.Common.{arith, ◌+◌}
use Rattle.laws.proofs.Splitting.{floor_mono}
use Rattle.river.specs.Split.{demand_of, total_of}
use Rattle.river.proofs.reserve.Split.share_above.Goals as goal

pub overflow_sub-result : goal.overflow_sub-result
overflow_sub-result c =
    let s = c.args.self.now in
    rw (c.part.ensures, c.demand.ensures, c.total-total.ensures)
    (floor_mono (demand_of s) c.args.before (c.args.before + c.args.own) (total_of s) (omega (arith, c.total-total.ensures, c.if-total-eq0.false)) (omega arith))
