-- Committed volume, own reserve and availability (000, 4.2.10; split after 003, annex 2). Assumes nothing.
use Rattle.std.specs.Prelude.{ℕ, zero, suc, pred, ◌+◌, ◌-◌, ◌*◌, ◌/◌, cond, eqb, ℤ, pos, ◌-ℤ◌}
use Rattle.laws.specs.Sum.{naturals}
use Rattle.laws.specs.Gather.{arriving}
use Rattle.laws.specs.Signed.{above}
use Rattle.model.specs.declared.Unit.{Unit}
use Rattle.model.specs.View.{View}
use Rattle.river.specs.Flow.{downstream, flow}

-- What a unit contributes to its downstream unit: its flow. The paper leaves shares open while a flow is negative; such a flow counts as 0.
abbrev pub contribution : View → ℕ → ℕ
contribution v j = above (flow v j)

-- What a unit contributes to itself: natural runoff + returns + imports.
abbrev pub inflow : Unit → ℕ
inflow u = u.runoff + u.returns + u.imports

-- The contributors of a unit are the units that drain straight into it, in number order, and last itself.
-- The running total of unit w's contributors before unit j.
abbrev pub running_total : View → ℕ → ℕ → ℕ
running_total v w j = arriving naturals (downstream v) (contribution v) j w

-- T, the total of unit w's contributors.
abbrev pub total : View → ℕ → ℕ
total v w = running_total v w w + inflow (v.unit w)

-- D, a unit's demand: extraction + exports + evaporation + committed volume.
abbrev pub demand : Unit → ℕ → ℕ
demand u committed = u.extraction + u.exports + u.evaporation + committed

-- What a contributor gets: floor(D × C / T) − floor(D × B / T), C being the running total with it and B without it.
abbrev pub share : ℕ → ℕ → ℕ → ℕ → ℕ
share D T B C = D * C / T - D * B / T

-- What a unit above gets of the demand D of unit w: its share, or 0 where T is 0.
abbrev pub share_above : View → ℕ → ℕ → ℕ → ℕ
share_above v w D j =
    cond (eqb (total v w) 0) 0
    (share D (total v w) (running_total v w j) (running_total v w j + contribution v j))

-- What a unit gets of its own demand: its share, or D where T is 0.
abbrev pub share_own : View → ℕ → ℕ → ℕ
share_own v w D = cond (eqb (total v w) 0) D (share D (total v w) (running_total v w w) (total v w))

-- Committed volume, along a way to the outlet of at most so many units: an outlet's is its commitment;
-- another unit's is what it gets of its downstream unit's demand.
unfoldable pub committed_to : View → ℕ → ℕ → ℕ
committed_to v zero j = (v.unit j).commitment
committed_to v (suc way) j =
    cond (eqb (downstream v j) 0) (v.unit j).commitment
    (share_above v (pred (downstream v j)) (demand (v.unit (pred (downstream v j))) (committed_to v way (pred (downstream v j)))) j)

-- Committed volume of a unit.
unfoldable pub committed : View → ℕ → ℕ
committed v j = committed_to v v.units j

-- Own reserve: what the unit gets of its own demand.
abbrev pub own_reserve : View → ℕ → ℕ
own_reserve v j = share_own v j (demand (v.unit j) (committed v j))

-- Availability = flow − committed volume, negative being a deficit.
abbrev pub availability : View → ℕ → ℤ
availability v j = flow v j -ℤ pos (committed v j)
