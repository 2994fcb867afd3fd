-- The units of a view, and nothing else. Assumes nothing.
use Rattle.std.specs.Prelude.{ℕ, List, length, get_or}
use Rattle.model.specs.declared.Unit.{Unit}
use Rattle.model.specs.Fresh.{empty_unit, empty_aquifer, empty_place}
use Rattle.model.specs.View.{View}

-- The view of units alone: no aquifers and no titles.
abbrev pub units_view : List Unit → ℕ → View
units_view us n =
    record {
      units = n;
      unit = λ k. get_or us k empty_unit;
      aquifers = 0;
      aquifer = λ k. empty_aquifer;
      given = 0;
      place = λ k. empty_place;
    }

-- The view of a list of units, all of which count.
abbrev pub units_of : List Unit → View
units_of us = units_view us (length us)
