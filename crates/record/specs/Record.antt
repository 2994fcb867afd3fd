-- The marks of a book and the records of a description (document 01, "The book"; document 02 [1] and [2]). Assumes nothing.
use Rattle.std.specs.Prelude.{ℕ, ◌+◌, Bool, cond, ◌&&◌, List, [], ◌∷◌, eqb, ℤ, pos, ◌+ℤ◌, Option, Some, None, is_some}
use Rattle.runoff.specs.Soil.{weighted}
use Rattle.runoff.specs.declared.Plot.{Plot}
use Rattle.runoff.specs.declared.Soils.{Soils}
use Rattle.runoff.specs.Year.{gauged_year}
use Rattle.runoff.specs.Mean.{natural_runoff}
use Rattle.model.specs.declared.Unit.{Unit}
use Rattle.model.specs.declared.Aquifer.{Aquifer}
use Rattle.record.specs.declared.UnitRecord.{UnitRecord}
use Rattle.record.specs.declared.Mark.{Mark}
use Rattle.record.specs.declared.Mark.TheVariants.{Un, Su, Pr, Pd, Af, Ac, Call}
use Rattle.record.specs.declared.CallMark.{CallMark}
use Rattle.record.specs.declared.CallMark.TheVariants.{Gu, Ga, Tu, Ta, Gw, Ca}
use Rattle.record.specs.Bytes.{bits8, bits32, signed_bits32}

-- The two letters stand at the two bytes.
abbrev pub spells : ℕ → ℕ → ℕ → ℕ → Bool
spells a b x y = eqb a x && eqb b y

-- The marks of the calls, in ASCII: GU, GA, TU, TA, GW, CA.
abbrev pub call_mark : ℕ → ℕ → Option CallMark
call_mark a b =
    cond (spells a b 71 85) (Some Gu)
    (cond (spells a b 71 65) (Some Ga)
    (cond (spells a b 84 85) (Some Tu)
    (cond (spells a b 84 65) (Some Ta)
    (cond (spells a b 71 87) (Some Gw)
    (cond (spells a b 67 65) (Some Ca)
    None)))))

-- The two bytes are one of them.
abbrev pub is_call : ℕ → ℕ → Bool
is_call a b = is_some (call_mark a b)

-- The marks: PR, AF, PD, SU, UN and AC of a description, and those of the calls.
abbrev pub mark_of : ℕ → ℕ → Option Mark
mark_of a b =
    cond (spells a b 80 82) (Some Pr)
    (cond (spells a b 65 70) (Some Af)
    (cond (spells a b 80 68) (Some Pd)
    (cond (spells a b 83 85) (Some Su)
    (cond (spells a b 85 78) (Some Un)
    (cond (spells a b 65 67) (Some Ac)
    (cond (is_call a b) (Some Call)
    None))))))

-- The fields of the UN at an offset, and the sums of no records.
abbrev pub unit_record : List ℕ → ℕ → UnitRecord
unit_record s i =
    record {
      at = i;
      downstream = bits8 s (i + 2);
      extraction = bits32 s (i + 3);
      exports = bits32 s (i + 7);
      imports = bits32 s (i + 11);
      returns = bits32 s (i + 15);
      evaporation = bits32 s (i + 19);
      storage = signed_bits32 s (i + 23);
      commitment = bits32 s (i + 27);
      soils = 0;
      hectares = 0;
      weighted = 0;
      years = 0;
      sum = pos 0;
    }

-- The same unit with other sums.
abbrev pub with_sums : UnitRecord → ℕ → ℕ → ℕ → ℕ → ℤ → UnitRecord
with_sums u soils hectares weighted years sum =
    record {
      at = u.at;
      downstream = u.downstream;
      extraction = u.extraction;
      exports = u.exports;
      imports = u.imports;
      returns = u.returns;
      evaporation = u.evaporation;
      storage = u.storage;
      commitment = u.commitment;
      soils = soils;
      hectares = hectares;
      weighted = weighted;
      years = years;
      sum = sum;
    }

-- The sums with one soil record more.
abbrev pub with_soil : UnitRecord → ℕ → ℕ → ℕ → UnitRecord
with_soil u cover soil hectares =
    with_sums u (u.soils + 1) (u.hectares + hectares) (u.weighted + weighted cover soil hectares) u.years u.sum

-- The sums with soil records more, read one after another.
unfoldable pub with_soils : UnitRecord → List Plot → UnitRecord
with_soils u [] = u
with_soils u (p ∷ plots) = with_soils (with_soil u p.cover p.soil p.hectares) plots

-- The two sums of the soil records.
abbrev pub soils_of : UnitRecord → Soils
soils_of u = record { area = u.hectares; weighted = u.weighted }

-- The sums with one year more, of so much water.
abbrev pub with_year : UnitRecord → ℤ → UnitRecord
with_year u year = with_sums u u.soils u.hectares u.weighted (u.years + 1) (u.sum +ℤ year)

-- What the gauged year of the AF at an offset gives.
abbrev pub gauge_of : List ℕ → ℕ → ℤ
gauge_of s i =
    gauged_year (bits32 s (i + 2)) (bits32 s (i + 6)) (bits32 s (i + 10)) (bits32 s (i + 14)) (bits32 s (i + 18)) (bits32 s (i + 22))
    (bits32 s (i + 26)) (signed_bits32 s (i + 30))

-- An AC record, 32 bits each: storage change (signed), natural discharge, pumped discharge, committed natural discharge, extraction already titled.
abbrev pub aquifer_record : List ℕ → ℕ → Aquifer
aquifer_record s i =
    record {
      storage = signed_bits32 s (i + 2);
      natural = bits32 s (i + 6);
      pumped = bits32 s (i + 10);
      committed = bits32 s (i + 14);
      extraction = bits32 s (i + 18);
    }

-- A unit without soil records is gauged.
abbrev pub is_gauged : UnitRecord → Bool
is_gauged u = eqb u.soils 0

-- The unit of the balance that a unit's fields and sums give.
abbrev pub closed_unit : UnitRecord → Unit
closed_unit u =
    record {
      downstream = u.downstream;
      extraction = u.extraction;
      exports = u.exports;
      imports = u.imports;
      returns = u.returns;
      evaporation = u.evaporation;
      storage = u.storage;
      commitment = u.commitment;
      runoff = natural_runoff (is_gauged u) u.years u.sum;
    }

-- The sums before the first UN.
abbrev pub no_sums : UnitRecord
no_sums =
    record {
      at = 0;
      downstream = 0;
      extraction = 0;
      exports = 0;
      imports = 0;
      returns = 0;
      evaporation = 0;
      storage = pos 0;
      commitment = 0;
      soils = 0;
      hectares = 0;
      weighted = 0;
      years = 0;
      sum = pos 0;
    }
