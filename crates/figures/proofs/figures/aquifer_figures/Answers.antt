-- `figures::aquifer_figures` meets its contract. Assumes nothing.
use Rattle.std.proofs.Common.{◌≡◌, arith, add-one}
use Rattle.laws.proofs.Arrays.{filled_start, filled_put, filled_table}
use Rattle.figures.specs.Figures.{aquifers_of, aquifer_figures, no_aquifer_figures}
use Rattle.figures.proofs.figures.aquifer_figures.Goals as goal

pub loop-i-init : goal.loop-i-init
loop-i-init c =
    let e : c.default-all.result ≡ no_aquifer_figures = λ i.
    record { recharge = c.default-all.ensures.0 i; availability = c.default-all.ensures.1 i } in
    rw e (filled_start 32 no_aquifer_figures _)

pub loop-i-preserved : goal.loop-i-preserved
loop-i-preserved c =
    rw (add-one c.loop-i.i)
    (filled_put 32 no_aquifer_figures (aquifer_figures (aquifers_of c.args.aquifers.now)) c.loop-i.i c.loop-i.all _
    (omega (arith, c.requires.few)) c.of_aquifer.ensures c.loop-i.invariant)

pub returns : goal.returns
returns c =
    let v = aquifers_of c.args.aquifers.now in
    let e : c.loop-i.i ≡ v.aquifers = omega arith in
    filled_table 32 no_aquifer_figures (aquifer_figures v) v.aquifers _ (rw e at c.loop-i.invariant)
