-- Laws of rounding and of the mean. Assumes nothing.
use Prim.Native.Nat.{ℕ, suc, ◌+◌, ◌*◌, ◌≤◌, ◌<◌}
use mathlib.Core.Bool.{Bool, true, false}
use lib.IntN.{ℤ}
use native.Mathlib.Nat.{mul-div-le, lt-mul-div-succ, div-lt_iff_lt-mul, suc-mul, mul_left_comm}
use native.Mathlib.Omega.{arith}
use Rattle.laws.specs.Signed.{above}
use Rattle.runoff.specs.Mean.{rounded, divisor, natural_runoff}

-- The error is at most half, and a half goes up.
pub rounded_low : (num den : ℕ) → 2 * den * rounded num den ≤ 2 * num + den
unfolding rounded
rounded_low num den = mul-div-le (2 * num + den) (2 * den)

pub rounded_high : (num den : ℕ) → 0 < den → 2 * num + den < 2 * den * (rounded num den + 1)
unfolding rounded
rounded_high num den h = lt-mul-div-succ (2 * num + den) {b = 2 * den} (omega arith)

-- What is at most m times the divisor rounds to at most m.
pub rounded_within : (m num den : ℕ) → 0 < den → num ≤ m * den → rounded num den ≤ m
unfolding rounded
rounded_within m num den h l =
    omega (arith, (div-lt_iff_lt-mul {k = 2 * den} {x = 2 * num + den} {y = suc m} (omega arith)).1 (omega (arith, suc-mul m (2 * den), mul_left_comm m 2 den)))

-- A mean of at least one year has a divisor, and a sum of at most 10,000,000 times it has a mean of at most 10,000,000.
pub divisor_positive : (gauged : Bool) (years : ℕ) → 0 < years → 0 < divisor gauged years
divisor_positive true years h = h
divisor_positive false years h = omega arith

pub natural_within : (gauged : Bool) (years : ℕ) (sum : ℤ) → 0 < years → above sum ≤ 10000000 * divisor gauged years
    → natural_runoff gauged years sum ≤ 10000000
natural_within gauged years sum h l = rounded_within 10000000 (above sum) (divisor gauged years) (divisor_positive gauged years h) l
