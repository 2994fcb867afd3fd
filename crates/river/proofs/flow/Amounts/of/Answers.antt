-- `Amounts::of` meets its contract. Assumes nothing.
use Rattle.std.proofs.Common.{◌≡◌, ◌+◌, false, true, get_or, arith, add-one}
use Rattle.river.specs.Flow.{gathered}
use Rattle.river.specs.Reserve.{contribution}
use Rattle.river.specs.Units.{units_of}
use Rattle.river.proofs.Flows.{gathered_small}
use Rattle.river.proofs.Reserves.{contribution_is}
use Rattle.river.proofs.Passing.{Onward, onward_of, passed_none, whole_is, carried_small, arrived_within, passed_out, passed_on, passed_all}
use Rattle.river.proofs.flow.Amounts.of.Goals as goal
use Rattle.river.proofs.flow.Amounts.of.Goals.{in-Some, in_default, After-gain, After-loss, After-contribution, In-Some}

pub loop-i-init : goal.loop-i-init
loop-i-init c = passed_none (units_of c.units-units.result.now)

-- What unit i has gained, and lost, when it is passed.
more_is : (c : After-gain) → get_or c.loop-i.amounts.gained c.loop-i.i 0 + c.gain.result ≡ gathered (units_of c.units-units.result.now) false c.loop-i.i
more_is c = whole_is (units_of c.units-units.result.now) c.units-units.ensures.ready c.loop-i.i c.loop-i-test.true false _ _ c.loop-i.invariant.gained c.gain.ensures

less_is : (c : After-loss) → get_or c.loop-i.amounts.lost c.loop-i.i 0 + c.loss.result ≡ gathered (units_of c.units-units.result.now) true c.loop-i.i
less_is c = whole_is (units_of c.units-units.result.now) c.units-units.ensures.ready c.loop-i.i c.loop-i-test.true true _ _ c.loop-i.invariant.lost c.loss.ensures

pub overflow_add-more : goal.overflow_add-more
overflow_add-more c =
    omega (arith, more_is c, gathered_small (units_of c.units-units.result.now) false c.units-units.ensures.ready c.loop-i.i c.loop-i-test.true)

pub overflow_add-less : goal.overflow_add-less
overflow_add-less c =
    omega (arith, less_is c, gathered_small (units_of c.units-units.result.now) true c.units-units.ensures.ready c.loop-i.i c.loop-i-test.true)

-- The unit below.
onward : (c : In-Some) → Onward (units_of c.units-units.result.now) c.loop-i.i c.in-Some.k
onward c =
    onward_of (units_of c.units-units.result.now) c.units-units.ensures.ready c.loop-i.i c.in-Some.k c.loop-i-test.true
    c.in-Some.ensures

pub overflow_add-amounts : goal.overflow_add-amounts
overflow_add-amounts c =
    omega (
      arith,
      carried_small (units_of c.units-units.result.now) c.units-units.ensures.ready c.loop-i.i c.loop-i-test.true false c.in-Some.k _ _
          (onward (goal.at.overflow_add-amounts c).In-Some) (more_is (goal.at.overflow_add-amounts c).After-gain) c.loop-i.invariant.gained,
    )

pub overflow_add-amounts-in-Some : goal.overflow_add-amounts-in-Some
overflow_add-amounts-in-Some c =
    omega (
      arith,
      carried_small (units_of c.units-units.result.now) c.units-units.ensures.ready c.loop-i.i c.loop-i-test.true true c.in-Some.k _ _
          (onward (goal.at.overflow_add-amounts-in-Some c).In-Some) (less_is (goal.at.overflow_add-amounts-in-Some c).After-loss)
          c.loop-i.invariant.lost,
    )

-- What the unit leaves is its contribution.
contributed : (c : After-contribution) → c.contribution.result ≡ contribution (units_of c.units-units.result.now) c.loop-i.i
contributed c =
    omega (
      arith,
      c.contribution.ensures,
      more_is (goal.at.After-contribution c).After-gain,
      less_is (goal.at.After-contribution c).After-loss,
      contribution_is (units_of c.units-units.result.now) c.loop-i.i,
    )

pub overflow_add-amounts-in-Some-2 : goal.overflow_add-amounts-in-Some-2
overflow_add-amounts-in-Some-2 c =
    omega (
      arith,
      arrived_within (units_of c.units-units.result.now) c.units-units.ensures.ready c.loop-i.i c.loop-i-test.true c.in-Some.k _ _
          (onward (goal.at.overflow_add-amounts-in-Some-2 c).In-Some) (contributed (goal.at.overflow_add-amounts-in-Some-2 c).After-contribution)
          c.loop-i.invariant.arrived,
    )

pub loop-i-preserved : goal.loop-i-preserved
loop-i-preserved c =
    let v = units_of c.units-units.result.now in
    let r = c.units-units.ensures.ready in
    let i = c.loop-i.i in
    let h = c.loop-i-test.true in
    let g = more_is (goal.at.loop-i-preserved c).After-gain in
    let l = less_is (goal.at.loop-i-preserved c).After-loss in
    rw (add-one i)
    (elim c.match-drains_to.branch [
      | in-Some w ↦
          let b = onward_of v r i w.in-Some.k h w.in-Some.ensures in
          let o : w.contribution.result ≡ contribution v i = omega (arith, w.contribution.ensures, g, l, contribution_is v i) in
          rw w.amounts-is (passed_on v r i h c.loop-i.amounts w.in-Some.k _ _ _ g l o b c.loop-i.invariant)
      | in_default w ↦
          rw w.amounts-is (passed_out v r i h c.loop-i.amounts _ _ g l w.in_default.ensures c.loop-i.invariant)
    ])

pub returns : goal.returns
returns c =
    let v = units_of c.units-units.result.now in
    let e : c.loop-i.i ≡ v.units = omega arith in
    let all = passed_all v c.units-units.ensures.ready c.loop-i.amounts (rw e at c.loop-i.invariant) in
    rw c.units-units.ensures.units at all
