-- A unit's demand that is split over its contributors. Assumes nothing.
use Rattle.std.specs.Prelude.{ℕ, ◌+◌}
use Rattle.river.specs.declared.reserve.Split.{Split}
use Rattle.river.specs.Reserve.{inflow, demand}

-- D, the demand of a unit with so much committed.
abbrev pub demand_of : Split → ℕ
demand_of s = demand s.unit.now s.committed

-- T, the total of its contributors: what has arrived, and what the unit contributes to itself.
abbrev pub total_of : Split → ℕ
total_of s = s.arrived + inflow s.unit.now
