-- What reservoirs evaporate, taken as an extraction. Assumes nothing.
use Rattle.std.specs.Prelude.{◌+◌}
use Rattle.model.specs.declared.Unit.{Unit}
use Rattle.model.specs.View.{View}

-- A unit with the same other entries whose extraction is its extraction and evaporation together, and that evaporates nothing.
abbrev pub as_extraction : Unit → Unit
as_extraction u =
    record {
      downstream = u.downstream;
      extraction = u.extraction + u.evaporation;
      exports = u.exports;
      imports = u.imports;
      returns = u.returns;
      evaporation = 0;
      storage = u.storage;
      commitment = u.commitment;
      runoff = u.runoff;
    }

-- A view whose units are taken so.
abbrev pub extracted : View → View
extracted v =
    record {
      units = v.units;
      unit = λ k. as_extraction (v.unit k);
      aquifers = v.aquifers;
      aquifer = v.aquifer;
      given = v.given;
      place = v.place;
    }
