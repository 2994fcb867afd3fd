-- The figures of a unit and of an aquifer. Assumes nothing.
use Rattle.std.specs.Prelude.{ℕ, ◌+◌, ◌≤◌, ◌<◌, pos, ◌-ℤ◌, length, get_or, List}
use Rattle.laws.specs.Signed.{above, below}
use Rattle.laws.specs.Table.{table}
use Rattle.model.specs.declared.Aquifer.{Aquifer}
use Rattle.model.specs.declared.Unit.{Unit}
use Rattle.model.specs.Fresh.{empty_unit, empty_aquifer, empty_place}
use Rattle.model.specs.View.{View}
use Rattle.model.specs.Limits.{unit_limit, aquifer_limit, term_limit}
use Rattle.river.specs.Flow.{flow}
use Rattle.river.specs.Reserve.{committed, own_reserve, availability}
use Rattle.river.specs.Passes.{from_own}
use Rattle.river.specs.Wells.{recharge, well_availability}
use Rattle.figures.specs.declared.UnitFigures.{UnitFigures}
use Rattle.figures.specs.declared.AquiferFigures.{AquiferFigures}

-- The four figures of the unit at index j.
abbrev pub unit_figures : View → ℕ → UnitFigures
unit_figures v j =
    record { flow = flow v j; committed = committed v j; reserve = own_reserve v j; availability = availability v j }

abbrev pub no_unit_figures : UnitFigures
no_unit_figures = record { flow = pos 0; committed = 0; reserve = 0; availability = pos 0 }

-- The figures of a unit from what is gained and lost at it and above it, what arrives there and what is committed.
abbrev pub figures_from : Unit → ℕ → ℕ → ℕ → ℕ → UnitFigures
figures_from u gained lost arrived committed =
    record {
      flow = pos gained -ℤ pos lost;
      committed = committed;
      reserve = from_own u committed arrived;
      availability = pos gained -ℤ pos (lost + committed);
    }

-- The two figures of an aquifer, and of the aquifer at index j.
abbrev pub figures_of : Aquifer → AquiferFigures
figures_of a = record { recharge = recharge a; availability = well_availability a }

abbrev pub aquifer_figures : View → ℕ → AquiferFigures
aquifer_figures v j = figures_of (v.aquifer j)

abbrev pub no_aquifer_figures : AquiferFigures
no_aquifer_figures = record { recharge = pos 0; availability = pos 0 }

-- The figures of all units, and of all aquifers, with 0 in the unused places.
abbrev pub all_unit_figures : View → List UnitFigures
all_unit_figures v = table unit_limit no_unit_figures v.units (unit_figures v)

abbrev pub all_aquifer_figures : View → List AquiferFigures
all_aquifer_figures v = table aquifer_limit no_aquifer_figures v.aquifers (aquifer_figures v)

-- A view whose aquifers can be worked out: at most 32, with storage changes that can be added up.
pub record WellsReady (v : View) : Type 0 where
  pub few : v.aquifers ≤ aquifer_limit
  pub rises : (k : ℕ) → k < v.aquifers → above (v.aquifer k).storage ≤ term_limit
  pub falls : (k : ℕ) → k < v.aquifers → below (v.aquifer k).storage ≤ term_limit

-- The view of aquifers alone: no units and no titles.
abbrev pub aquifers_view : List Aquifer → ℕ → View
aquifers_view ws n =
    record {
      units = 0;
      unit = λ k. empty_unit;
      aquifers = n;
      aquifer = λ k. get_or ws k empty_aquifer;
      given = 0;
      place = λ k. empty_place;
    }

-- The view of a list of aquifers, all of which count.
abbrev pub aquifers_of : List Aquifer → View
aquifers_of ws = aquifers_view ws (length ws)
