-- Records as bytes, the book of document 01 ("One book, printed"), its description with other calls (document 02 [2]), and two books of
-- reservoirs (document 02 [6]). Assumes nothing.
use Rattle.std.specs.Prelude.{ℕ, zero, suc, ◌-◌, ◌/◌, ◌%◌, ◌^◌, List, [], ◌∷◌, ◌++◌, ℤ, pos, negsuc}
use Rattle.runoff.specs.declared.Measure.{Measure}
use Rattle.runoff.specs.declared.Measure.TheVariants.{Millimetres, Tenths}
use Rattle.runoff.specs.declared.Rain.{Rain}
use Rattle.runoff.specs.declared.Gauged.{Gauged}

-- 16 and 32 bits, little-endian.
abbrev pub bytes16 : ℕ → List ℕ
bytes16 n = n % 256 ∷ n / 256 ∷ []

abbrev pub bytes32 : ℕ → List ℕ
bytes32 n = bytes16 (n % 65536) ++ bytes16 (n / 65536)

-- 32 bits, signed.
abbrev pub signed_bytes32 : ℤ → List ℕ
signed_bytes32 (pos n) = bytes32 n
signed_bytes32 (negsuc n) = bytes32 (2 ^ 32 - suc n)

-- A list so many times over.
abbrev pub repeated : ℕ → List ℕ → List ℕ
repeated zero s = []
repeated (suc n) s = s ++ repeated n s

-- UN: downstream unit, extraction and commitment, and 0 in all other entries.
abbrev pub unit_bytes : ℕ → ℕ → ℕ → List ℕ
unit_bytes downstream extraction commitment =
    85 ∷ 78 ∷ downstream ∷ bytes32 extraction ++ repeated 5 (bytes32 0) ++ bytes32 commitment

-- SU: cover, soil and hectares.
abbrev pub soil_bytes : ℕ → ℕ → ℕ → List ℕ
soil_bytes cover soil hectares = 83 ∷ 85 ∷ cover ∷ soil ∷ bytes32 hectares

-- One year's rain, by a PR in millimetres or by a PD in tenths.
abbrev pub millimetres : ℕ → Rain
millimetres mm = record { measure = Millimetres; depth = mm }

abbrev pub tenths : ℕ → Rain
tenths p = record { measure = Tenths; depth = p }

abbrev rain_mark : Measure → List ℕ
rain_mark Millimetres = 80 ∷ 82 ∷ []
rain_mark Tenths = 80 ∷ 68 ∷ []

abbrev pub rain_bytes : Rain → List ℕ
rain_bytes r = rain_mark r.measure ++ bytes16 r.depth

-- AF: one gauged year.
abbrev pub gauge_bytes : Gauged → List ℕ
gauge_bytes y =
    65 ∷ 70 ∷ bytes32 y.outflow ++ bytes32 y.inflow ++ bytes32 y.extraction ++ bytes32 y.exports ++ bytes32 y.imports
    ++ bytes32 y.returns ++ bytes32 y.evaporation ++ signed_bytes32 y.storage

-- AC: storage change, natural, pumped and committed natural discharge, extraction already titled.
abbrev pub aquifer_bytes : ℤ → ℕ → ℕ → ℕ → ℕ → List ℕ
aquifer_bytes storage natural pumped committed extraction =
    65 ∷ 67 ∷ signed_bytes32 storage ++ bytes32 natural ++ bytes32 pumped ++ bytes32 committed ++ bytes32 extraction

-- GU: unit, use and volume; GA: aquifer and volume; TA: aquifer, unit and volume; GW: aquifer, return unit, use and volume; CA: title number.
abbrev pub grant_bytes : ℕ → ℕ → ℕ → List ℕ
grant_bytes unit usage volume = 71 ∷ 85 ∷ unit ∷ usage ∷ bytes32 volume

abbrev pub well_grant_bytes : ℕ → ℕ → List ℕ
well_grant_bytes aquifer volume = 71 ∷ 65 ∷ aquifer ∷ bytes32 volume

abbrev pub well_transfer_bytes : ℕ → ℕ → ℕ → List ℕ
well_transfer_bytes aquifer unit volume = 84 ∷ 65 ∷ aquifer ∷ unit ∷ bytes32 volume

abbrev pub returning_bytes : ℕ → ℕ → ℕ → ℕ → List ℕ
returning_bytes aquifer unit usage volume = 71 ∷ 87 ∷ aquifer ∷ unit ∷ usage ∷ bytes32 volume

abbrev pub cancel_bytes : ℕ → List ℕ
cancel_bytes number = 67 ∷ 65 ∷ bytes16 number

-- A unit of 10,000 ha of one cover and soil with twenty years of 800 mm.
abbrev pub whole_unit : ℕ → ℕ → ℕ → ℕ → ℕ → List ℕ
whole_unit downstream extraction commitment cover soil =
    unit_bytes downstream extraction commitment ++ soil_bytes cover soil 10000 ++ repeated 20 (rain_bytes (millimetres 800))

-- Units 1 and 2 drain to 3, an outlet with extraction 3000 and commitment 1000. Unit 1 has cover 14 soil 2; units 2 and 3 each cover 8
-- soil 1. Aquifer: −200, 900, 1300, 500, 1300.
unfoldable pub printed_description : List ℕ
printed_description =
    whole_unit 3 0 0 14 2 ++ whole_unit 3 0 0 8 1 ++ whole_unit 0 3000 1000 8 1 ++ aquifer_bytes (negsuc 199) 900 1300 500 1300

-- Calls: GU 3 1 2000; GU 2 1 2000; GA 1 250; TA 1 3 200.
unfoldable pub printed_calls : List ℕ
printed_calls = grant_bytes 3 1 2000 ++ grant_bytes 2 1 2000 ++ well_grant_bytes 1 250 ++ well_transfer_bytes 1 3 200

-- The book: its description and then its calls.
unfoldable pub printed_book : List ℕ
printed_book = printed_description ++ printed_calls

-- The same description with other calls: GW 1 2 2 200; GW 1 2 6 1; GU 2 1 1938; CA 1.
unfoldable pub returning_calls : List ℕ
returning_calls = returning_bytes 1 2 2 200 ++ returning_bytes 1 2 6 1 ++ grant_bytes 2 1 1938 ++ cancel_bytes 1

unfoldable pub returning_book : List ℕ
returning_book = printed_description ++ returning_calls

-- And with the first of them and its cancellation: GW 1 2 2 200; CA 1.
unfoldable pub released_calls : List ℕ
released_calls = returning_bytes 1 2 2 200 ++ cancel_bytes 1

unfoldable pub released_book : List ℕ
released_book = printed_description ++ released_calls

-- UN of an outlet: evaporation, storage change and commitment, and 0 in all other entries.
abbrev pub lake_bytes : ℕ → ℤ → ℕ → List ℕ
lake_bytes evaporation storage commitment =
    85 ∷ 78 ∷ 0 ∷ repeated 4 (bytes32 0) ++ bytes32 evaporation ++ signed_bytes32 storage ++ bytes32 commitment

-- Unit 1 drains to 2, a reservoir at the outlet that evaporates the 1000 by which it falls, with commitment 1500. Both have cover 8 soil 1.
unfoldable pub reservoir_description : List ℕ
reservoir_description =
    whole_unit 2 0 0 8 1 ++ lake_bytes 1000 (negsuc 999) 1500 ++ soil_bytes 8 1 10000 ++ repeated 20 (rain_bytes (millimetres 800))

-- Calls: GU 1 1 728; GU 1 1 727.
unfoldable pub reservoir_calls : List ℕ
reservoir_calls = grant_bytes 1 1 728 ++ grant_bytes 1 1 727

unfoldable pub reservoir_book : List ℕ
reservoir_book = reservoir_description ++ reservoir_calls

-- A gauged year without water.
abbrev pub dry_year : Gauged
dry_year =
    record { outflow = 0; inflow = 0; extraction = 0; exports = 0; imports = 0; returns = 0; evaporation = 0; storage = pos 0 }

-- A reservoir alone that falls by 100, of which 30 evaporate, with commitment 20 and twenty years without water.
unfoldable pub dry_reservoir_book : List ℕ
dry_reservoir_book = lake_bytes 30 (negsuc 99) 20 ++ repeated 20 (gauge_bytes dry_year)
