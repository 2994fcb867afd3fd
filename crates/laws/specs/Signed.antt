-- Signed numbers by their two natural parts. Assumes nothing.
use Rattle.std.specs.Prelude.{ℕ, suc, ◌^◌, ◌<◌, cond, ltb, ℤ, pos, negsuc, ◌-ℤ◌}

-- How far a number lies above 0.
abbrev pub above : ℤ → ℕ
above (pos n) = n
above (negsuc n) = 0

-- How far a number lies below 0.
abbrev pub below : ℤ → ℕ
below (pos n) = 0
below (negsuc n) = suc n

-- The number that 32 bits hold in two's complement.
abbrev pub signed32 : ℕ → ℤ
signed32 n = cond (ltb n (2 ^ 31)) (pos n) (pos n -ℤ pos (2 ^ 32))

-- Two numbers whose sum 64 bits hold.
pub record Roomy (a b : ℤ) : Type 0 where
  pub above_left : above a < 2 ^ 62
  pub below_left : below a < 2 ^ 62
  pub above_right : above b < 2 ^ 62
  pub below_right : below b < 2 ^ 62
