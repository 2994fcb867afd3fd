-- Natural runoff of a unit from its soil records and its years, as lists. Assumes nothing.
use Rattle.std.specs.Prelude.{ℕ, ◌+◌, Bool, true, false, List, [], ◌∷◌, eqb, length, ℤ, pos, ◌+ℤ◌}
use Rattle.runoff.specs.Soil.{weighted}
use Rattle.runoff.specs.declared.Plot.{Plot}
use Rattle.runoff.specs.declared.Rain.{Rain}
use Rattle.runoff.specs.declared.Gauged.{Gauged}
use Rattle.runoff.specs.Year.{in_tenths, rain_year, gauged_year}
use Rattle.runoff.specs.Mean.{natural_runoff}

-- A is the unit's hectares.
unfoldable pub area_of : List Plot → ℕ
area_of [] = 0
area_of (p ∷ ps) = p.hectares + area_of ps

-- S is the sum of hectares times K.
unfoldable pub weighted_of : List Plot → ℕ
weighted_of [] = 0
weighted_of (p ∷ ps) = weighted p.cover p.soil p.hectares + weighted_of ps

-- What a year's rain gives on A hectares with the sum S, in 6,000,000,000ths.
abbrev pub rain_of : ℕ → ℕ → Rain → ℕ
rain_of A S r = rain_year A S (in_tenths r.measure r.depth)

-- The sum of the rain years, in 6,000,000,000ths.
unfoldable pub rain_sum : ℕ → ℕ → List Rain → ℕ
rain_sum A S [] = 0
rain_sum A S (r ∷ years) = rain_of A S r + rain_sum A S years

-- The natural runoff of a unit with rain years is the mean of its years, rounded once.
unfoldable pub rain_runoff : List Plot → List Rain → ℕ
rain_runoff plots years = natural_runoff false (length years) (pos (rain_sum (area_of plots) (weighted_of plots) years))

-- What a gauged year gives.
abbrev pub gauged_of : Gauged → ℤ
gauged_of y =
    gauged_year y.outflow y.inflow y.extraction y.exports y.imports y.returns y.evaporation y.storage

-- The sum of the gauged years.
unfoldable pub gauged_sum : List Gauged → ℤ
gauged_sum [] = pos 0
gauged_sum (y ∷ years) = gauged_of y +ℤ gauged_sum years

-- The natural runoff of a unit with gauged years is the mean of its years, rounded once.
unfoldable pub gauged_runoff : List Gauged → ℕ
gauged_runoff years = natural_runoff true (length years) (gauged_sum years)

-- One year of a unit: its rain, or its gauged volumes.
pub data Year : Type 0 where
  of_rain : Rain → Year
  of_gauge : Gauged → Year

-- What a year gives on A hectares with the sum S: a rain year in 6,000,000,000ths, a gauged year in thousand m³.
abbrev pub year_gives : ℕ → ℕ → Year → ℤ
year_gives A S (of_rain r) = pos (rain_of A S r)
year_gives A S (of_gauge y) = gauged_of y

-- The sum of the years.
unfoldable pub years_sum : ℕ → ℕ → List Year → ℤ
years_sum A S [] = pos 0
years_sum A S (y ∷ years) = year_gives A S y +ℤ years_sum A S years

-- The sum of a unit's years on its soil records.
abbrev pub sum_on : List Plot → List Year → ℤ
sum_on plots years = years_sum (area_of plots) (weighted_of plots) years

-- A unit without soil records is gauged.
abbrev pub gauged_on : List Plot → Bool
gauged_on plots = eqb (length plots) 0

-- The natural runoff of a unit is the mean of its years, rounded once, halves up.
abbrev pub runoff_of : List Plot → List Year → ℕ
runoff_of plots years = natural_runoff (gauged_on plots) (length years) (sum_on plots years)
