-- `reach::outlets` meets its contract. Assumes nothing.
use Rattle.std.proofs.Common.{◌≡◌, ◌<◌, ◌-◌, suc, sym, ◌∙◌, length, arith}
use Rattle.laws.proofs.Arrays.{filled_down_start, filled_down_more}
use Rattle.river.specs.Flow.{downstream}
use Rattle.river.specs.Units.{units_of}
use Rattle.river.proofs.Passing.{onward_of}
use Rattle.reach.specs.Reach.{outlet}
use Rattle.reach.proofs.Ways.{outlet_self, upstream_same}
use Rattle.reach.proofs.outlet.outlets.Goals as goal
use Rattle.reach.proofs.outlet.outlets.Goals.{in-None, in-Some}

pub loop-i-init : goal.loop-i-init
loop-i-init c = filled_down_start 64 0 _ _

pub loop-i-preserved : goal.loop-i-preserved
loop-i-preserved c =
    let v = units_of c.units-units.result.now in
    let j = c.loop-i.i - 1 in
    let h : j < length c.units-units.result.now = omega arith in
    let e : c.loop-i.i ≡ suc j = omega arith in
    let found : c.match-drains_to.ends ≡ outlet v j =
    elim c.match-drains_to.branch [
      | in-None w ↦ w.ends-is ∙ sym (outlet_self v j w.in-None.ensures)
      | in-Some w ↦
          let d : downstream v j ≡ suc w.in-Some.k = w.in-Some.ensures in
          let b = onward_of v c.units-units.ensures.ready j w.in-Some.k h d in
          w.ends-is ∙ c.loop-i.invariant.done w.in-Some.k (omega (arith, b.later)) b.within ∙ sym (upstream_same v c.units-units.ensures.ready j w.in-Some.k h d)
    ] in
    filled_down_more 64 0 (outlet v) v.units j c.loop-i.ends _ (omega (arith, c.units-units.ensures.ready.few)) h found (rw e at c.loop-i.invariant)
