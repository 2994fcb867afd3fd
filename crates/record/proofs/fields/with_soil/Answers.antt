-- `with_soil` meets its contract. Assumes nothing.
use Rattle.std.proofs.Common.{◌≡◌, ◌∙◌, ◌+◌, ap, arith, rules}
use Rattle.runoff.specs.Soil.{weighted}
use Rattle.runoff.specs.declared.Soils.{Soils}
use Rattle.runoff.proofs.Walking.{walked_one, walkable_one}
use Rattle.record.proofs.fields.with_soil.Goals as goal

-- The open unit's sums leave room for one record more.
pub walk-soils-requires : goal.walk-soils-requires
walk-soils-requires c = walkable_one _ c.args.plot.now c.requires.known (omega arith) (omega arith)

pub returns : goal.returns
returns c =
    let p = c.args.plot.now in
    let both = c.walk-soils.ensures ∙ walked_one record { area = c.args.u.hectares; weighted = c.args.u.weighted } p in
    let area : c.walk-soils.result.area ≡ c.args.u.hectares + p.hectares = ap (λ (s : Soils). s.area) both in
    let sum : c.walk-soils.result.weighted ≡ c.args.u.weighted + weighted p.cover p.soil p.hectares = ap (λ (s : Soils). s.weighted) both in
    search rules
