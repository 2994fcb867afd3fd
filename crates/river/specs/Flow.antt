-- Flow (000, 4.2.2). Assumes nothing.
use Rattle.std.specs.Prelude.{ℕ, suc, ◌+◌, ◌≤◌, ◌<◌, ◌≡◌, ◌⊎◌, List, length, get_or, Bool, true, false, ℤ, pos, ◌+ℤ◌, ◌-ℤ◌}
use Rattle.laws.specs.Sum.{naturals, integers}
use Rattle.laws.specs.Gather.{gather}
use Rattle.laws.specs.Signed.{above, below}
use Rattle.model.specs.declared.Unit.{Unit}
use Rattle.model.specs.View.{View}
use Rattle.model.specs.Limits.{unit_limit, term_limit}
use Rattle.river.specs.Limits.{gain_limit}

-- The number of the unit that unit j drains into, 0 for an outlet.
abbrev pub downstream : View → ℕ → ℕ
downstream v j = (v.unit j).downstream

-- What a unit adds to the river by itself: natural runoff + returns + imports − exports − extraction − evaporation − storage change.
abbrev pub net : Unit → ℤ
net u =
    pos u.runoff +ℤ pos u.returns +ℤ pos u.imports -ℤ pos u.exports -ℤ pos u.extraction -ℤ pos u.evaporation
    -ℤ u.storage

-- Flow of a unit = flows of the units that drain straight into it + what it adds by itself.
unfoldable pub flow : View → ℕ → ℤ
flow v j = gather integers (downstream v) (λ k. net (v.unit k)) j

-- The two natural parts of what a unit adds by itself: what it gains and what it loses. A falling storage is a gain.
abbrev pub gain : Unit → ℕ
gain u = u.runoff + u.returns + u.imports + below u.storage

abbrev pub loss : Unit → ℕ
loss u = u.exports + u.extraction + u.evaporation + above u.storage

abbrev pub part : Bool → Unit → ℕ
part true u = loss u
part false u = gain u

-- All that is lost, or gained, at a unit and above it. Flow is what is gained there less what is lost (laws, flow_parts).
unfoldable pub gathered : View → Bool → ℕ → ℕ
gathered v lost j = gather naturals (downstream v) (λ k. part lost (v.unit k)) j

-- The storage change of a unit is small enough to be added up.
pub record Small (u : Unit) : Type 0 where
  pub rise : above u.storage ≤ gain_limit
  pub fall : below u.storage ≤ gain_limit

-- A view whose passes over the tree are safe: at most 64 units, each draining onward within the balance, with entries that can be added up.
pub record Ready (v : View) : Type 0 where
  pub few : v.units ≤ unit_limit
  pub onward : (k : ℕ) → k < v.units → (downstream v k ≡ 0) ⊎ (suc k < downstream v k)
  pub within : (k : ℕ) → k < v.units → downstream v k ≤ v.units
  pub gains : (k : ℕ) → k < v.units → gain (v.unit k) ≤ gain_limit
  pub losses : (k : ℕ) → k < v.units → loss (v.unit k) ≤ gain_limit
  pub commitments : (k : ℕ) → k < v.units → (v.unit k).commitment ≤ term_limit

-- The reply of a pass: what each unit gathers, and 0 in the unused places.
pub record Gathered (v : View) (lost : Bool) (r : List ℕ) : Type 0 where
  pub long : length r ≡ unit_limit
  pub each : (j : ℕ) → j < v.units → get_or r j 0 ≡ gathered v lost j
  pub rest : (j : ℕ) → v.units ≤ j → get_or r j 0 ≡ 0
