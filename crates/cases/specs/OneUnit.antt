-- Books of one unit, and the balances that they open. Assumes nothing.
use Rattle.std.specs.Prelude.{ℕ, ◌≡◌, refl, List, [], ◌∷◌, ◌++◌, map, replicate, ℤ, pos, negsuc, Ok}
use Rattle.laws.specs.Sum.{sum_of}
use Rattle.laws.specs.Gather.{gather, gather_to}
use Rattle.laws.specs.Table.{table, tabulate}
use Rattle.model.specs.declared.Unit.{Unit}
use Rattle.model.specs.Fresh.{empty_unit, empty_aquifer, empty_place}
use Rattle.model.specs.Answers.{first_from}
use Rattle.runoff.specs.Soil.{coefficient, coefficients}
use Rattle.runoff.specs.Year.{rain_year}
use Rattle.runoff.specs.Mean.{rounded}
use Rattle.runoff.specs.declared.Plot.{Plot}
use Rattle.runoff.specs.declared.Rain.{Rain}
use Rattle.runoff.specs.declared.Gauged.{Gauged}
use Rattle.runoff.specs.Record.{area_of, weighted_of, years_sum}
use Rattle.river.specs.Flow.{flow}
use Rattle.book.specs.declared.Opened.{Opened}
use Rattle.book.specs.Reading.{reading_from, opened}
use Rattle.record.specs.Entries.{entry_at}
use Rattle.cases.specs.Printed.{unit_bytes, soil_bytes, millimetres, tenths, rain_bytes, gauge_bytes}

-- So many hectares of a cover on a soil.
abbrev pub plot : ℕ → ℕ → ℕ → Plot
plot cover soil hectares = record { cover = cover; soil = soil; hectares = hectares }

-- The soils of (a), of (b) and (c), of (d) and of (e).
abbrev pub meadow : List Plot
meadow = plot 14 2 10000 ∷ []

abbrev pub forest : List Plot
forest = plot 8 1 10000 ∷ []

abbrev pub half : List Plot
half = plot 8 1 8 ∷ plot 9 1 2 ∷ []

abbrev pub under : List Plot
under = plot 8 1 1 ∷ plot 9 1 6 ∷ []

-- The soils of appendix D of 000, K = 0.25 on 2213 km²: two equal areas of 0.24 and 0.26.
abbrev pub tequisistlan : List Plot
tequisistlan = plot 2 1 110650 ∷ plot 1 1 110650 ∷ []

-- Twenty years of so much rain; the years of (c), ten of 400 mm and ten of 1200; nineteen years of 500 mm and one of 400.
abbrev pub steady : ℕ → List Rain
steady mm = replicate 20 (millimetres mm)

abbrev pub uneven : List Rain
uneven = replicate 10 (millimetres 400) ++ replicate 10 (millimetres 1200)

abbrev pub mixed : List Rain
mixed = replicate 19 (millimetres 500) ++ millimetres 400 ∷ []

-- Ten years of 500 mm by PR and ten of 499.9 mm by PD.
abbrev pub both_marks : List Rain
both_marks = replicate 10 (millimetres 500) ++ replicate 10 (tenths 4999)

-- The years 1971 to 1992 of appendix D, in tenths of a millimetre.
abbrev pub tequisistlan_tenths : List ℕ
tequisistlan_tenths =
    9865 ∷ 7278 ∷ 11633 ∷ 8410 ∷ 7917 ∷ 6240 ∷ 4850 ∷ 8638 ∷ 11162 ∷ 6622 ∷ 11867 ∷ 6921 ∷ 7374 ∷ 10620 ∷ 6624 ∷ 9107 ∷ 6415 ∷ 9633 ∷ 9288
    ∷ 3929 ∷ 8909 ∷ 8377 ∷ []

abbrev pub tequisistlan_years : List Rain
tequisistlan_years = map tenths tequisistlan_tenths

-- A gauged year with this storage change, and another number in each field.
abbrev pub year_with : ℤ → Gauged
year_with storage =
    record {
      outflow = 1000;
      inflow = 200;
      extraction = 30;
      exports = 40;
      imports = 50;
      returns = 60;
      evaporation = 7;
      storage = storage;
    }

-- Nineteen years with a falling storage and one with a rising one.
abbrev pub gauges : List Gauged
gauges = replicate 19 (year_with (negsuc 7)) ++ year_with (pos 2) ∷ []

-- The bytes of soil records, of rain years and of gauged years.
abbrev pub plots_bytes : List Plot → List ℕ
plots_bytes [] = []
plots_bytes (p ∷ plots) = soil_bytes p.cover p.soil p.hectares ++ plots_bytes plots

abbrev pub rains_bytes : List Rain → List ℕ
rains_bytes [] = []
rains_bytes (r ∷ years) = rain_bytes r ++ rains_bytes years

abbrev gauges_bytes : List Gauged → List ℕ
gauges_bytes [] = []
gauges_bytes (y ∷ years) = gauge_bytes y ++ gauges_bytes years

-- The book of one outlet with 0 in all its entries, with soil records and rain years, or with gauged years.
abbrev pub rain_book : List Plot → List Rain → List ℕ
rain_book plots rains = unit_bytes 0 0 0 ++ plots_bytes plots ++ rains_bytes rains

abbrev pub gauged_book : List Gauged → List ℕ
gauged_book years = unit_bytes 0 0 0 ++ gauges_bytes years

-- A unit with these entries, and 0 in all others.
abbrev pub unit_with : ℕ → ℕ → ℕ → ℕ → ℕ → ℕ → Unit
unit_with downstream extraction imports returns commitment runoff =
    record {
      downstream = downstream;
      extraction = extraction;
      exports = 0;
      imports = imports;
      returns = returns;
      evaporation = 0;
      storage = pos 0;
      commitment = commitment;
      runoff = runoff;
    }

-- Such a book is accepted, ends after so many bytes, and opens a balance of one unit with this natural runoff and 0 in all other places.
abbrev pub opens_one : ℕ → ℕ → Opened
opens_one size runoff =
    record {
      answer = Ok tt;
      place = size;
      balance =
          record {
            units = unit_with 0 0 0 0 0 runoff ∷ replicate 63 empty_unit;
            unit_count = 1;
            aquifers = replicate 32 empty_aquifer;
            aquifer_count = 0;
            titles = replicate 256 empty_place;
            given = 0;
          };
    }

pub opens_a : opened (rain_book meadow (steady 800)) ≡ opens_one 119 10080
unfolding reading_from entry_at table tabulate first_from flow gather gather_to sum_of years_sum area_of weighted_of rain_year coefficient coefficients rounded
opens_a = refl

pub opens_b : opened (rain_book forest (steady 800)) ≡ opens_one 119 1540
unfolding reading_from entry_at table tabulate first_from flow gather gather_to sum_of years_sum area_of weighted_of rain_year coefficient coefficients rounded
opens_b = refl

pub opens_c : opened (rain_book forest uneven) ≡ opens_one 119 2100
unfolding reading_from entry_at table tabulate first_from flow gather gather_to sum_of years_sum area_of weighted_of rain_year coefficient coefficients rounded
opens_c = refl

pub opens_d : opened (rain_book half (steady 500)) ≡ opens_one 127 1
unfolding reading_from entry_at table tabulate first_from flow gather gather_to sum_of years_sum area_of weighted_of rain_year coefficient coefficients rounded
opens_d = refl

pub opens_e : opened (rain_book under (steady 500)) ≡ opens_one 127 0
unfolding reading_from entry_at table tabulate first_from flow gather gather_to sum_of years_sum area_of weighted_of rain_year coefficient coefficients rounded
opens_e = refl

pub opens_mixed : opened (rain_book half mixed) ≡ opens_one 127 0
unfolding reading_from entry_at table tabulate first_from flow gather gather_to sum_of years_sum area_of weighted_of rain_year coefficient coefficients rounded
opens_mixed = refl

pub opens_both : opened (rain_book half both_marks) ≡ opens_one 127 0
unfolding reading_from entry_at table tabulate first_from flow gather gather_to sum_of years_sum area_of weighted_of rain_year coefficient coefficients rounded
opens_both = refl

pub opens_tequisistlan : opened (rain_book tequisistlan tequisistlan_years) ≡ opens_one 135 264955
unfolding reading_from entry_at table tabulate first_from flow gather gather_to sum_of years_sum area_of weighted_of rain_year coefficient coefficients rounded
opens_tequisistlan = refl

pub opens_gauged : opened (gauged_book gauges) ≡ opens_one 711 760
unfolding reading_from entry_at table tabulate first_from flow gather gather_to sum_of years_sum area_of weighted_of rounded
opens_gauged = refl
