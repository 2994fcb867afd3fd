-- `Tree::first_negative` meets its contract. Assumes nothing.
use Rattle.std.proofs.Common.{◌≡◌, ◌+◌, ◌-◌, not, ap, sym, length, get_or, arith, add-one}
use Rattle.std.specs.Int.Signed.{non_neg}
use borrow.Author.Count.{below_none, below_more}
use Rattle.laws.proofs.Parts.{Less, less_monus, less_non_neg, less_negative}
use Rattle.laws.proofs.Arrays.{arrived_start, arrived_out, arrived_on}
use Rattle.river.specs.Flow.{flow, downstream}
use Rattle.river.specs.Reserve.{contribution}
use Rattle.river.specs.Units.{units_of}
use Rattle.river.proofs.Reserves.{flow_reached, total_small}
use Rattle.river.proofs.Firsts.{first_at, first_nothing}
use Rattle.river.proofs.Passing.{onward_of, arrived_within}
use Rattle.river.proofs.tree.Tree.first_negative.Goals as goal
use Rattle.river.proofs.tree.Tree.first_negative.Goals.{After-loss-lost, in-Some, in_default}

pub loop-i-init : goal.loop-i-init
loop-i-init c = record { passed = below_none _; arrived = arrived_start 64 _ _ }

-- What the loop compares at unit i: its flow is the one less the other.
reached : (c : After-loss-lost)
    → Less (flow (units_of c.units-units.result.now) c.loop-i.i) (get_or c.loop-i.arrived c.loop-i.i 0 + c.gain.result) c.loss-lost.result
reached c =
    let f = c.loop-i.invariant in
    rw (f.arrived.each c.loop-i.i (omega (arith, c.units-units.ensures.ready.few)), c.gain.ensures, c.loss-lost.ensures)
    (flow_reached (units_of c.units-units.result.now) c.loop-i.i f.passed)

pub overflow_add-gained : goal.overflow_add-gained
overflow_add-gained c =
    let v = units_of c.units-units.result.now in
    let r = c.units-units.ensures.ready in
    omega (
      arith,
      c.gain.ensures,
      c.loop-i.invariant.arrived.each c.loop-i.i (omega (arith, r.few)),
      total_small v r c.loop-i.i c.loop-i-test.true,
      r.gains c.loop-i.i c.loop-i-test.true,
    )

-- The unit's contribution goes on to its downstream unit.
contributed : (c : After-loss-lost)
    → get_or c.loop-i.arrived c.loop-i.i 0 + c.gain.result - c.loss-lost.result ≡ contribution (units_of c.units-units.result.now) c.loop-i.i
contributed c = sym (less_monus (reached c))

pub overflow_add-arrived : goal.overflow_add-arrived
overflow_add-arrived c =
    let v = units_of c.units-units.result.now in
    let r = c.units-units.ensures.ready in
    let b = onward_of v r c.loop-i.i c.in-Some.k c.loop-i-test.true c.in-Some.ensures in
    omega (
      arith,
      arrived_within v r c.loop-i.i c.loop-i-test.true c.in-Some.k c.loop-i.arrived _ b
          (contributed (goal.at.overflow_add-arrived c).After-loss-lost) c.loop-i.invariant.arrived,
    )

-- A unit with no negative flow contributes to the unit below it, or is an outlet.
pub loop-i-preserved : goal.loop-i-preserved
loop-i-preserved c =
    let v = units_of c.units-units.result.now in
    let r = c.units-units.ensures.ready in
    let i = c.loop-i.i in
    let f = c.loop-i.invariant in
    let after = (goal.at.loop-i-preserved c).After-loss-lost in
    let none = below_more _ _ f.passed (less_non_neg (reached after) c.if-gained-lost.false) in
    rw (add-one i)
    (elim c.match-drains_to.branch [
      | in-Some w ↦
          let b = onward_of v r i w.in-Some.k c.loop-i-test.true w.in-Some.ensures in
          rw (w.arrived-is, contributed after)
          (record {
            passed = λ k h. none k (omega arith);
            arrived = arrived_on 64 (downstream v) (contribution v) i w.in-Some.k c.loop-i.arrived b.next (omega (arith, b.within, r.few)) f.arrived;
          })
      | in_default w ↦
          rw w.arrived-is
          (record {
            passed = λ k h. none k (omega arith);
            arrived = arrived_out 64 (downstream v) (contribution v) i c.loop-i.arrived w.in_default.ensures f.arrived;
          })
    ])

pub returns-after-loop-i : goal.returns-after-loop-i
returns-after-loop-i c =
    let us = c.units-units.result.now in
    let e = first_nothing (λ k. not (non_neg (flow (units_of us) k))) (length us) (λ k h. ap not (c.loop-i.invariant.passed k (omega arith))) in
    sym (rw c.units-units.ensures.units at e)

pub returns-then-gained-lost : goal.returns-then-gained-lost
returns-then-gained-lost c =
    let us = c.units-units.result.now in
    let e = first_at (λ k. not (non_neg (flow (units_of us) k))) (length us) c.loop-i.i c.loop-i-test.true (λ k h. ap not (c.loop-i.invariant.passed k h))
    (ap not (less_negative (reached (goal.at.returns-then-gained-lost c).After-loss-lost) c.if-gained-lost.true)) in
    sym (rw c.units-units.ensures.units at e)
