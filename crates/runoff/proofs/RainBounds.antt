-- Bounds of a rain year. Assumes nothing.
use Prim.Native.Nat.{ℕ, ◌-◌, ◌*◌, ◌≤◌}
use native.Mathlib.Nat.{mul-le-mul}
use native.Mathlib.Omega.{arith}
use borrow.Author.Tests.{lt-ltb, le-ltb}
use Rattle.laws.proofs.Cases.{by_lt}
use Rattle.runoff.specs.Year.{RainRange, rain_parts, rain_year}

module _ (A S p : ℕ) (r : RainRange A S p) where
  pub rain_weighted : p * 3 * S ≤ 638550000000
  rain_weighted = mul-le-mul {n₂ = 64500} {m₂ = 9900000} (omega arith) (omega arith)

  pub first_within : (over : ℕ) → over ≤ p → p * 3 * S * over ≤ 13728825000000000
  first_within over h = mul-le-mul {n₂ = 638550000000} {m₂ = 21500} rain_weighted (omega arith)

  pub second_within : p * 40000 * (S - 15 * A) ≤ 4644000000000000
  second_within = mul-le-mul {n₂ = 860000000} {m₂ = 5400000} (omega arith) (omega arith)

  -- A rain year gives at most 10,000,000 thousand m³.
  pub rain_within : rain_year A S p ≤ 10000000 * rain_parts
  unfolding rain_year
  rain_within =
      by_lt (15 * A) S
      (λ h. rw (lt-ltb (15 * A) S h) (omega (arith, first_within (p - 2500) (omega arith), second_within)))
      (λ h. rw (le-ltb (15 * A) S h) (omega (arith, first_within (p - 2500) (omega arith))))
