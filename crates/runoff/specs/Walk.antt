-- Soil records read once: their hectares and their weighted sum in one walk. Assumes nothing.
use Rattle.std.specs.Prelude.{ℕ, ◌+◌, ◌*◌, ◌≤◌, ◌^◌, List, length, take, drop, All}
use Rattle.runoff.specs.Soil.{Known}
use Rattle.runoff.specs.Record.{area_of, weighted_of}
use Rattle.runoff.specs.declared.Plot.{Plot}
use Rattle.runoff.specs.declared.Soils.{Soils}

-- A walk over soil records goes on from two sums and adds to each the records' sum worked alone.
abbrev pub walked : Soils → List Plot → Soils
walked soils plots = record { area = soils.area + area_of plots; weighted = soils.weighted + weighted_of plots }

-- The two sums of no soil records.
abbrev pub no_soils : Soils
no_soils = record { area = 0; weighted = 0 }

-- The walk broken off after k records and taken up again from its two sums.
abbrev pub taken_up : ℕ → Soils → List Plot → Soils
taken_up k soils plots = walked (walked soils (take k plots)) (drop k plots)

-- What a walk asks: covers and soils that the table has, and room in 64 bits for 2 ^ 32 hectares more with each record.
pub record Walkable (soils : Soils) (plots : List Plot) : Type 0 where
  pub known : All (λ p. Known p.cover p.soil) plots
  pub area : soils.area + 2 ^ 32 * length plots ≤ 2 ^ 63
  pub weighted : soils.weighted + 33 * 2 ^ 32 * length plots ≤ 2 ^ 63
