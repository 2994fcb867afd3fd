-- The fresh balance, and its empty places. Assumes nothing.
use Rattle.std.specs.Prelude.{false, replicate, pos}
use Rattle.model.specs.declared.Unit.{Unit}
use Rattle.model.specs.declared.Aquifer.{Aquifer}
use Rattle.model.specs.declared.Title.TheVariants.{UnitWithdrawal}
use Rattle.model.specs.declared.Place.{Place}
use Rattle.model.specs.declared.Balance.{Balance}
use Rattle.model.specs.Limits.{unit_limit, aquifer_limit, title_limit}

-- A place that holds no unit, no aquifer, no title: all zeros.
abbrev pub empty_unit : Unit
empty_unit =
    record {
      downstream = 0;
      extraction = 0;
      exports = 0;
      imports = 0;
      returns = 0;
      evaporation = 0;
      storage = pos 0;
      commitment = 0;
      runoff = 0;
    }

abbrev pub empty_aquifer : Aquifer
empty_aquifer = record { storage = pos 0; natural = 0; pumped = 0; committed = 0; extraction = 0 }

abbrev pub empty_place : Place
empty_place = record { title = UnitWithdrawal 0 0 0; in_force = false }

-- The fresh balance has no units, no aquifers and no titles.
abbrev pub fresh_balance : Balance
fresh_balance =
    record {
      units = replicate unit_limit empty_unit;
      unit_count = 0;
      aquifers = replicate aquifer_limit empty_aquifer;
      aquifer_count = 0;
      titles = replicate title_limit empty_place;
      given = 0;
    }
