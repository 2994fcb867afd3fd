-- The replies of the passes over the tree that work out the figures. Assumes nothing.
use Rattle.std.specs.Prelude.{ℕ, pred, ◌+◌, ◌≤◌, ◌<◌, ◌≡◌, true, false, cond, List, eqb, length, get_or}
use Rattle.model.specs.declared.Unit.{Unit}
use Rattle.model.specs.View.{View}
use Rattle.model.specs.Limits.{unit_limit}
use Rattle.river.specs.declared.flow.Amounts.{Amounts}
use Rattle.river.specs.Flow.{downstream, Gathered}
use Rattle.river.specs.Reserve.{inflow, demand, share, running_total}
use Rattle.river.specs.Limits.{committed_limit, split_limit}

-- The running total before a unit at its downstream unit; 0 for an outlet.
abbrev pub running_before : View → ℕ → ℕ
running_before v j = cond (eqb (downstream v j) 0) 0 (running_total v (pred (downstream v j)) j)

-- The running totals before each unit, at each unit the total of the units that drain straight into it, and 0 in the unused places.
pub record RunningTotals (v : View) (before arrived : List ℕ) : Type 0 where
  pub long_before : length before ≡ unit_limit
  pub long_arrived : length arrived ≡ unit_limit
  pub each_before : (j : ℕ) → j < v.units → get_or before j 0 ≡ running_before v j
  pub each_arrived : (w : ℕ) → w < v.units → get_or arrived w 0 ≡ running_total v w w
  pub rest_before : (j : ℕ) → v.units ≤ j → get_or before j 0 ≡ 0
  pub rest_arrived : (w : ℕ) → v.units ≤ w → get_or arrived w 0 ≡ 0

-- The reply of the forward pass: all that is gained and lost at each unit and above it, the running total before it at its downstream
-- unit, and the total of the units that drain straight into it; 0 in the unused places.
pub record Flows (v : View) (a : Amounts) : Type 0 where
  pub gained : Gathered v false a.gained
  pub lost : Gathered v true a.lost
  pub totals : RunningTotals v a.before a.arrived

-- A demand and its running totals that are small enough to be split: the demand of a unit with so much committed, and the total of so
-- much arrived and its own inflow.
pub record Splits (u : Unit) (committed arrived : ℕ) : Type 0 where
  pub promised : committed ≤ committed_limit
  pub asked : demand u committed ≤ split_limit
  pub small : arrived + inflow u ≤ split_limit

-- What a contributor above, and the unit itself, get of the demand of a unit with so much committed and so much arrived.
abbrev pub from_below : Unit → ℕ → ℕ → ℕ → ℕ → ℕ
from_below w committed arrived before own =
    cond (eqb (arrived + inflow w) 0) 0 (share (demand w committed) (arrived + inflow w) before (before + own))

abbrev pub from_own : Unit → ℕ → ℕ → ℕ
from_own u committed arrived =
    cond (eqb (arrived + inflow u) 0) (demand u committed) (share (demand u committed) (arrived + inflow u) arrived (arrived + inflow u))
