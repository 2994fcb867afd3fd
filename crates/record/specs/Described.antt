-- A unit as its book describes it, by its records (document 01, "The book"; document 02 [1]). Assumes nothing.
use Rattle.std.specs.Prelude.{ℕ, ◌+◌, ◌<◌, ◌≡◌, List, [], ◌∷◌, ◌++◌, map, ℤ, pos, length}
use Rattle.model.specs.declared.Unit.{Unit}
use Rattle.runoff.specs.declared.Measure.{Measure}
use Rattle.runoff.specs.declared.Plot.{Plot}
use Rattle.runoff.specs.declared.Rain.{Rain}
use Rattle.runoff.specs.declared.Gauged.{Gauged}
use Rattle.runoff.specs.Record.{Year, of_rain, of_gauge, area_of, weighted_of, sum_on, runoff_of}
use Rattle.record.specs.declared.UnitRecord.{UnitRecord}
use Rattle.record.specs.Bytes.{bits8, bits16, bits32, signed_bits32}

-- The offset of the unit's UN mark, the fields of its UN, its soil records and its years, in file order.
pub record DescribedUnit : Type 0 where
  pub at : ℕ
  pub downstream : ℕ
  pub extraction : ℕ
  pub exports : ℕ
  pub imports : ℕ
  pub returns : ℕ
  pub evaporation : ℕ
  pub storage : ℤ
  pub commitment : ℕ
  pub plots : List Plot
  pub years : List Year

-- The UN at an offset: downstream unit (8 bits), then 32 bits each: extraction, exports, imports, returns, evaporation, storage change
-- (signed), outlet commitment. It begins with no soil records and no years.
abbrev pub unit_at : List ℕ → ℕ → DescribedUnit
unit_at s i =
    record {
      at = i;
      downstream = bits8 s (i + 2);
      extraction = bits32 s (i + 3);
      exports = bits32 s (i + 7);
      imports = bits32 s (i + 11);
      returns = bits32 s (i + 15);
      evaporation = bits32 s (i + 19);
      storage = signed_bits32 s (i + 23);
      commitment = bits32 s (i + 27);
      plots = [];
      years = [];
    }

-- The SU at an offset: cover and soil (8 bits each), hectares (32 bits).
abbrev pub plot_at : List ℕ → ℕ → Plot
plot_at s i = record { cover = bits8 s (i + 2); soil = bits8 s (i + 3); hectares = bits32 s (i + 4) }

-- The PR or PD at an offset: one year's rain (16 bits), of a PR in millimetres, of a PD in tenths.
abbrev pub rain_at : Measure → List ℕ → ℕ → Rain
rain_at measure s i = record { measure = measure; depth = bits16 s (i + 2) }

-- The AF at an offset: one gauged year, 32 bits each: outflow, inflow, extraction, exports, imports, returns, evaporation, storage
-- change (signed).
abbrev pub gauged_at : List ℕ → ℕ → Gauged
gauged_at s i =
    record {
      outflow = bits32 s (i + 2);
      inflow = bits32 s (i + 6);
      extraction = bits32 s (i + 10);
      exports = bits32 s (i + 14);
      imports = bits32 s (i + 18);
      returns = bits32 s (i + 22);
      evaporation = bits32 s (i + 26);
      storage = signed_bits32 s (i + 30);
    }

-- A unit with other soil records and years.
abbrev pub with_records : DescribedUnit → List Plot → List Year → DescribedUnit
with_records u plots years =
    record {
      at = u.at;
      downstream = u.downstream;
      extraction = u.extraction;
      exports = u.exports;
      imports = u.imports;
      returns = u.returns;
      evaporation = u.evaporation;
      storage = u.storage;
      commitment = u.commitment;
      plots = plots;
      years = years;
    }

-- A unit with one soil record more, with one year more.
abbrev pub add_plot : DescribedUnit → Plot → DescribedUnit
add_plot u p = with_records u (u.plots ++ (p ∷ [])) u.years

abbrev pub add_year : DescribedUnit → Year → DescribedUnit
add_year u y = with_records u u.plots (u.years ++ (y ∷ []))

-- A unit has either soil records and then rain years, PR and PD mixed as they come, or gauged years and no soil records.
pub record RainUnit (u : DescribedUnit) : Type 0 where
  pub rains : List Rain
  pub soiled : 0 < length u.plots
  pub all_rain : u.years ≡ map of_rain rains

pub record GaugedUnit (u : DescribedUnit) : Type 0 where
  pub gauges : List Gauged
  pub bare : u.plots ≡ []
  pub all_gauged : u.years ≡ map of_gauge gauges

-- Before the first UN there is no unit.
abbrev pub no_unit : DescribedUnit
no_unit =
    record {
      at = 0;
      downstream = 0;
      extraction = 0;
      exports = 0;
      imports = 0;
      returns = 0;
      evaporation = 0;
      storage = pos 0;
      commitment = 0;
      plots = [];
      years = [];
    }

-- The counts and sums of a unit's records, which its refusals go by: how many soil records there are, their hectares and weighted
-- hectares, how many years there are and their sum.
abbrev pub summed : DescribedUnit → UnitRecord
summed u =
    record {
      at = u.at;
      downstream = u.downstream;
      extraction = u.extraction;
      exports = u.exports;
      imports = u.imports;
      returns = u.returns;
      evaporation = u.evaporation;
      storage = u.storage;
      commitment = u.commitment;
      soils = length u.plots;
      hectares = area_of u.plots;
      weighted = weighted_of u.plots;
      years = length u.years;
      sum = sum_on u.plots u.years;
    }

-- The unit of the balance: its UN's fields and a natural runoff.
abbrev pub unit_giving : DescribedUnit → ℕ → Unit
unit_giving u runoff =
    record {
      downstream = u.downstream;
      extraction = u.extraction;
      exports = u.exports;
      imports = u.imports;
      returns = u.returns;
      evaporation = u.evaporation;
      storage = u.storage;
      commitment = u.commitment;
      runoff = runoff;
    }

abbrev pub unit_of : DescribedUnit → Unit
unit_of u = unit_giving u (runoff_of u.plots u.years)
