-- Floors of a demand split over running totals. Assumes nothing.
use Prim.Native.Nat.{ℕ, ◌*◌, ◌/◌, ◌≤◌, ◌<◌}
use mathlib.Core.Path.{◌≡◌}
use native.Mathlib.Nat.{mul-le-mul_left, le_trans, le-div_iff_mul-le, div-mul-le_self, mul-div_cancel}
use native.Mathlib.Omega.{arith}

-- The whole total gets the whole demand.
pub floor_all : (D T : ℕ) → 0 < T → D * T / T ≡ D
floor_all D T h = mul-div_cancel D h

-- A larger running total gets no less.
pub floor_mono : (D B C T : ℕ) → 0 < T → B ≤ C → D * B / T ≤ D * C / T
floor_mono D B C T h g = (le-div_iff_mul-le h).1 (le_trans (div-mul-le_self (D * B) T) (mul-le-mul_left D g))

-- A running total that is no more than the total gets no more than the demand.
pub floor_le : (D C T : ℕ) → 0 < T → C ≤ T → D * C / T ≤ D
floor_le D C T h g = omega (arith, floor_mono D C T T h g, floor_all D T h)
