-- `Split::share_own` meets its contract. Assumes nothing.
use Prim.Native.Nat.{◌<◌}
use native.Mathlib.Omega.{arith}
use borrow.Author.Tests.{ne_eqb}
use Rattle.laws.proofs.Splitting.{floor_all, floor_le}
use Rattle.river.specs.Split.{demand_of, total_of}
use Rattle.river.proofs.reserve.Split.share_own.Goals as goal
use Rattle.river.proofs.reserve.Split.share_own.Goals.{Else-total-eq0}

-- The total is not 0.
some : (c : Else-total-eq0) → 0 < total_of c.args.self.now
some c = omega (arith, c.total.ensures, c.if-total-eq0.false)

pub overflow_sub-result : goal.overflow_sub-result
overflow_sub-result c =
    let s = c.args.self.now in
    omega (arith, c.demand-demand.ensures, c.part.ensures, floor_le (demand_of s) s.arrived (total_of s) (some (goal.at.overflow_sub-result c).Else-total-eq0) (omega arith))

pub returns : goal.returns
returns c =
    let s = c.args.self.now in
    let t = some (goal.at.returns c).Else-total-eq0 in
    rw (ne_eqb (total_of s) 0 (omega (arith, t)))
    (omega (arith, c.demand-demand.ensures, c.part.ensures, floor_all (demand_of s) (total_of s) t))
