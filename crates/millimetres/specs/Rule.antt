-- The natural runoff by document 01's rain rule, in millimetres. Assumes nothing.
use Rattle.std.specs.Prelude.{ℕ, ◌+◌, ◌-◌, ◌*◌, cond, List, [], ◌∷◌, ltb, length, ℤ, pos, ◌+ℤ◌}
use Rattle.laws.specs.Signed.{above}
use Rattle.model.specs.declared.Unit.{Unit}
use Rattle.runoff.specs.Mean.{rounded}
use Rattle.runoff.specs.declared.Plot.{Plot}
use Rattle.runoff.specs.Record.{Year, of_rain, of_gauge, area_of, weighted_of, gauged_of, gauged_on}
use Rattle.record.specs.Described.{DescribedUnit, unit_giving}

-- A rain year of P mm gives P × 3 × S × (P − 250), and where S exceeds 15 × A also P × 4000 × (S − 15 × A), in 60,000,000ths of a
-- thousand m³.
unfoldable pub mm_year : ℕ → ℕ → ℕ → ℕ
mm_year A S P = P * 3 * S * (P - 250) + cond (ltb (15 * A) S) (P * 4000 * (S - 15 * A)) 0

-- What a year gives: a rain year in 60,000,000ths, the number of its record being in mm; a gauged year in thousand m³.
abbrev pub mm_gives : ℕ → ℕ → Year → ℤ
mm_gives A S (of_rain r) = pos (mm_year A S r.depth)
mm_gives A S (of_gauge y) = gauged_of y

-- The sum of the years.
unfoldable pub mm_years_sum : ℕ → ℕ → List Year → ℤ
mm_years_sum A S [] = pos 0
mm_years_sum A S (y ∷ years) = mm_gives A S y +ℤ mm_years_sum A S years

abbrev pub mm_sum_on : List Plot → List Year → ℤ
mm_sum_on plots years = mm_years_sum (area_of plots) (weighted_of plots) years

-- The natural runoff of a unit is the mean of its years, rounded once, halves up.
abbrev pub mm_runoff : List Plot → List Year → ℕ
mm_runoff plots years =
    rounded (above (mm_sum_on plots years)) (cond (gauged_on plots) (length years) (length years * 60000000))

-- The unit of the balance.
abbrev pub mm_unit : DescribedUnit → Unit
mm_unit u = unit_giving u (mm_runoff u.plots u.years)
