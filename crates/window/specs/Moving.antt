-- A window that moves on by a year: its sum, and what its steps are worked from. Assumes nothing.
use Rattle.std.specs.Prelude.{ℕ, ◌*◌, ◌≤◌, false, List, pos, sum_by, length, All}
use Rattle.laws.specs.Table.{table}
use Rattle.runoff.specs.Year.{rain_year}
use Rattle.runoff.specs.Mean.{natural_runoff}
use Rattle.runoff.specs.declared.Soils.{Soils}
use Rattle.window.specs.Window.{window, window_count, window_limit}

-- The sum of rain years on the soils with these two sums, in 6,000,000,000ths.
abbrev pub years_on : Soils → List ℕ → ℕ
years_on soils years = sum_by (rain_year soils.area soils.weighted) years

-- The sum of the window that begins at an index.
abbrev pub window_sum : Soils → List ℕ → ℕ → ℕ → ℕ
window_sum soils years width i = years_on soils (window width years i)

-- The mean of so many rain years with this sum.
abbrev pub mean_of : ℕ → ℕ → ℕ
mean_of width sum = natural_runoff false width (pos sum)

-- The mean of the window that begins at an index.
abbrev pub mean_at : Soils → List ℕ → ℕ → ℕ → ℕ
mean_at soils years width i = mean_of width (window_sum soils years width i)

-- The means of all windows, and 0 in the unused places.
abbrev pub means_of : Soils → List ℕ → ℕ → List ℕ
means_of soils years width = table window_limit 0 (window_count years width) (mean_at soils years width)

-- Soils of at most 300,000 hectares and rain years of at most 21,500 tenths.
pub record Yielding (soils : Soils) (years : List ℕ) : Type 0 where
  pub area : soils.area ≤ 300000
  pub weighted : soils.weighted ≤ 33 * soils.area
  pub rain : All (λ p. p ≤ 21500) years

-- A record of rain years that has windows of so many years, and no more windows than places.
pub record Movable (soils : Soils) (years : List ℕ) (width : ℕ) : Type 0 where
  pub yielding : Yielding soils years
  pub least : 20 ≤ width
  pub most : width ≤ 50
  pub within : width ≤ length years
  pub short : length years ≤ 200
