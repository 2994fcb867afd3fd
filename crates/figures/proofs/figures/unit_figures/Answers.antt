-- `figures::unit_figures` meets its contract. Assumes nothing.
use Rattle.std.proofs.Common.{◌≡◌, ◌<◌, ◌-◌, suc, false, true, sym, ap, ◌∙◌, List, length, get_or, arith}
use Rattle.laws.proofs.Arrays.{filled_down_start, filled_down_more, filled_table}
use Rattle.river.specs.Reserve.{committed}
use Rattle.river.specs.Passes.{Flows}
use Rattle.river.specs.Units.{units_of}
use Rattle.river.proofs.Flows.{gathered_small}
use Rattle.river.proofs.Passing.{onward_of}
use Rattle.river.proofs.Reserves.{committed_outlet, splits}
use Rattle.river.proofs.Stepping.{Share, share_of}
use Rattle.figures.specs.declared.UnitFigures.{UnitFigures}
use Rattle.model.specs.declared.Unit.{Unit}
use Rattle.figures.specs.Figures.{unit_figures, no_unit_figures, all_unit_figures}
use Rattle.figures.proofs.Units.{figures_from_lem}
use Rattle.figures.proofs.figures.unit_figures.Goals as goal
use Rattle.figures.proofs.figures.unit_figures.Goals.{in-None, in-Some, After-contribution-own, In-loop-i, Joined-drains_to}

pub loop-i-init : goal.loop-i-init
loop-i-init c =
    let e : c.default-all.result ≡ no_unit_figures = λ i.
    record {
      flow = c.default-all.ensures.0 i;
      committed = c.default-all.ensures.1.0 i;
      reserve = c.default-all.ensures.1.1.0 i;
      availability = c.default-all.ensures.1.1.1 i;
    } in
    rw e (filled_down_start 64 no_unit_figures _ _)

-- The amounts are those of the units.
flows : (c : In-loop-i) → Flows (units_of c.units-units.result.now) c.args.amounts.now
flows c = rw c.units-units.ensures.units c.requires

-- The unit that the turn passes.
passed : (c : In-loop-i) → c.loop-i.i - 1 < length c.units-units.result.now
passed c = omega arith

-- What the unit gets of the demand below it.
shared : (c : After-contribution-own)
    → Share (units_of c.units-units.result.now) (c.loop-i.i - 1) c.in-Some.k (get_or c.loop-i.all c.in-Some.k no_unit_figures).committed
    (get_or c.args.amounts.now.arrived c.in-Some.k 0) (get_or c.args.amounts.now.before (c.loop-i.i - 1) 0) c.contribution-own.result
shared c =
    let v = units_of c.units-units.result.now in
    let j = c.loop-i.i - 1 in
    let h = passed (goal.at.After-contribution-own c).In-loop-i in
    let b = onward_of v c.units-units.ensures.ready j c.in-Some.k h c.in-Some.ensures in
    share_of v c.units-units.ensures.ready c.args.amounts.now (flows (goal.at.After-contribution-own c).In-loop-i) j c.in-Some.k h b _ _
    (ap (λ (x : UnitFigures). x.committed) (c.loop-i.invariant.done c.in-Some.k (omega (arith, b.later)) b.within)) c.contribution-own.ensures

pub invariant_of-below : goal.invariant_of-below
invariant_of-below c = record { splits = (shared (goal.at.invariant_of-below c).After-contribution-own).split }

pub share_above-committed-requires : goal.share_above-committed-requires
share_above-committed-requires c = (shared (goal.at.share_above-committed-requires c).After-contribution-own).within

-- The unit's committed volume.
volume_is : (c : Joined-drains_to) → c.match-drains_to.committed ≡ committed (units_of c.units-units.result.now) (c.loop-i.i - 1)
volume_is c =
    let v = units_of c.units-units.result.now in
    let j = c.loop-i.i - 1 in
    let r = c.units-units.ensures.ready in
    let h = passed (goal.at.Joined-drains_to c).In-loop-i in
    elim c.match-drains_to.branch [
      | in-None w ↦ w.committed-is ∙ w.from-committed.ensures ∙ sym (committed_outlet v j w.in-None.ensures)
      | in-Some w ↦
          let k = w.in-Some.k in
          let b = onward_of v r j k h w.in-Some.ensures in
          let s = share_of v r c.args.amounts.now (flows (goal.at.Joined-drains_to c).In-loop-i) j k h b _ _
          (ap (λ (x : UnitFigures). x.committed) (c.loop-i.invariant.done k (omega (arith, b.later)) b.within)) w.contribution-own.ensures in
          w.committed-is ∙ w.share_above-committed.ensures ∙ s.gets
    ]

pub invariant_of-split : goal.invariant_of-split
invariant_of-split c =
    let v = units_of c.units-units.result.now in
    let j = c.loop-i.i - 1 in
    let here = (goal.at.invariant_of-split c).In-loop-i in
    let h = passed here in
    rw ((flows here).totals.each_arrived j h, volume_is (goal.at.invariant_of-split c).Joined-drains_to)
    (record { splits = splits v c.units-units.ensures.ready j h })

pub of_unit-requires : goal.of_unit-requires
of_unit-requires c =
    let v = units_of c.units-units.result.now in
    let j = c.loop-i.i - 1 in
    let here = (goal.at.of_unit-requires c).In-loop-i in
    let h = passed here in
    let r = c.units-units.ensures.ready in
    let f = flows here in
    rw (f.gained.each j h, f.lost.each j h) (gathered_small v false r j h, gathered_small v true r j h)

pub loop-i-preserved : goal.loop-i-preserved
loop-i-preserved c =
    let v = units_of c.units-units.result.now in
    let j = c.loop-i.i - 1 in
    let h = passed (goal.at.loop-i-preserved c).In-loop-i in
    let f = flows (goal.at.loop-i-preserved c).In-loop-i in
    let e : c.loop-i.i ≡ suc j = omega arith in
    let x = figures_from_lem v j _ _ _ _ c.of_unit.result (f.gained.each j h) (f.lost.each j h) (f.totals.each_arrived j h)
    (volume_is (goal.at.loop-i-preserved c).Joined-drains_to) c.of_unit.ensures in
    filled_down_more 64 no_unit_figures (unit_figures v) v.units j c.loop-i.all _ (omega (arith, c.units-units.ensures.ready.few)) h x
    (rw e at c.loop-i.invariant)

pub returns : goal.returns
returns c =
    let v = units_of c.units-units.result.now in
    let e : c.loop-i.i ≡ 0 = omega arith in
    let f = rw e at c.loop-i.invariant in
    filled_table 64 no_unit_figures (unit_figures v) v.units _
    (record { long = f.long; done = λ j h. f.done j (omega arith) h; rest = f.rest })
    ∙ ap (λ (us : List Unit). all_unit_figures (units_of us)) c.units-units.ensures.units
