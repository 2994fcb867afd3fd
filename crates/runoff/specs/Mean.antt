-- The mean of the years, rounded once. Assumes nothing.
use Rattle.std.specs.Prelude.{ℕ, ◌+◌, ◌*◌, ◌/◌, ◌≤◌, ◌<◌, ◌≡◌, Bool, cond, ℤ}
use Rattle.laws.specs.Signed.{above}
use Rattle.runoff.specs.Year.{rain_parts}

-- The whole number nearest to num / den, halves up.
unfoldable pub rounded : ℕ → ℕ → ℕ
rounded num den = (2 * num + den) / (2 * den)

-- What the sum of a unit's years is divided by to give their mean in thousand m³: the number of years, of rain years in 6,000,000,000ths.
abbrev pub divisor : Bool → ℕ → ℕ
divisor gauged years = cond gauged years (years * rain_parts)

-- den is that divisor, of 1 to 50 years.
pub record Divides (gauged : Bool) (years den : ℕ) : Type 0 where
  pub exact : den ≡ divisor gauged years
  pub least : 0 < den
  pub most : den ≤ 300000000000

-- The natural runoff is the mean of the years, rounded once, halves up.
abbrev pub natural_runoff : Bool → ℕ → ℤ → ℕ
natural_runoff gauged years sum = rounded (above sum) (divisor gauged years)

-- What a mean is worked from: 1 to 50 years, each at most 10,000,000 thousand m³ in 6,000,000,000ths.
pub record MeanRange (years : ℕ) (sum : ℤ) : Type 0 where
  pub years_from : 0 < years
  pub years_to : years ≤ 50
  pub sum_to : above sum ≤ 60000000000000000 * 50
