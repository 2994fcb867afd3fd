-- The fewest digits that hold a number are its decimal digits. Assumes nothing.
use mathlib.Core.Path.{◌≡◌, sym, ap, ◌∙◌}
use mathlib.Core.List.{List, [], ◌∷◌, ◌++◌}
use Rattle.std.specs.Prelude.{cond, nat_lt}
use Prim.Native.Nat.{ℕ, zero, suc, ◌+◌, ◌*◌, ◌-◌, ◌/◌, ◌%◌, ◌^◌, ◌≤◌, ◌<◌}
use native.Mathlib.Nat.{pow-suc}
use native.Mathlib.Omega.{arith}
use borrow.Author.Tests.{lt-ltb, le-ltb}
use Rattle.text.specs.Text.{digit, decimal_below, decimal}

-- the ASCII code of a digit below 16: `0` to `9`, then `a` to `f`
abbrev pub hex_digit_ascii : ℕ → ℕ
hex_digit_ascii d = cond (nat_lt d 10) (48 + d) (87 + d)

-- the last k digits of n in base b, the most significant first
abbrev pub last_digits : ℕ → ℕ → ℕ → List ℕ
last_digits b zero n = []
last_digits b (suc k) n = last_digits b k (n / b) ++ (hex_digit_ascii (n % b) ∷ [])

-- n takes k digits in base b, when padded to `width` digits
abbrev pub IsDigitCount : ℕ → ℕ → ℕ → ℕ → Type 0
IsDigitCount b width n k = (width ≤ k) × (n < b ^ k) × (width < k → b ^ (k - 1) ≤ n)

-- a number below 10 is its one digit
one : (bound n : ℕ) → n < 10 → decimal_below (suc bound) n ≡ digit n
unfolding decimal_below
one bound n h = rw (lt-ltb n 10 h)

-- a number from 10 on is what stands before its last digit, and that digit
more : (bound n : ℕ) → 10 ≤ n → decimal_below (suc bound) n ≡ decimal_below bound (n / 10) ++ digit (n % 10)
unfolding decimal_below
more bound n h = rw (le-ltb n 10 h)

glyph_digit : (d : ℕ) → d < 10 → hex_digit_ascii d ∷ [] ≡ digit d
glyph_digit d h = rw (lt-ltb d 10 h)

-- 10 to the power of one more, and the exponent that `IsDigitCount` has
tenfold : (k : ℕ) → 10 ^ suc k ≡ 10 * 10 ^ k
tenfold k = omega (arith, pow-suc 10 k)

exponent : (k : ℕ) → 10 ^ (suc k - 1) ≡ 10 ^ k
exponent k = ap (λ (i : ℕ). 10 ^ i) (omega arith)

-- without its last digit n is held by one digit fewer
fewer : (k n : ℕ) → IsDigitCount 10 1 n (suc (suc k)) → IsDigitCount 10 1 (n / 10) (suc k)
fewer k n f = (
  omega arith,
  omega (arith, tenfold (suc k), f.1),
  λ h. omega (arith, tenfold k, exponent k, exponent (suc k), f.2 (omega arith)),
)

ten_pos : (k : ℕ) → 1 ≤ 10 ^ k
ten_pos zero = omega arith
ten_pos (suc k) = omega (arith, tenfold k, ten_pos k)

from_ten : (k n : ℕ) → IsDigitCount 10 1 n (suc (suc k)) → 10 ≤ n
from_ten k n f = omega (arith, tenfold k, ten_pos k, exponent (suc k), f.2 (omega arith))

-- The fewest digits that hold n are its decimal digits.
below : (k bound n : ℕ) → n < bound → IsDigitCount 10 1 n k → last_digits 10 k n ≡ decimal_below bound n
below zero bound n h f = absurd (omega (arith, f.0))
below (suc k) zero n h f = absurd (omega arith)
below (suc zero) (suc bound) n h f =
    let small : n < 10 = omega (arith, f.1) in
    glyph_digit (n % 10) (omega arith) ∙ ap digit (omega arith) ∙ sym (one bound n small)
below (suc (suc k)) (suc bound) n h f =
    let large : 10 ≤ n = from_ten k n f in
    let front : last_digits 10 (suc k) (n / 10) ≡ decimal_below bound (n / 10) = below (suc k) bound (n / 10) (omega arith) (fewer k n f) in
    rw (front, glyph_digit (n % 10) (omega arith)) (sym (more bound n large))

pub digits_decimal : (n k : ℕ) → IsDigitCount 10 1 n k → last_digits 10 k n ≡ decimal n
unfolding decimal
digits_decimal n k f = below k (suc n) n (omega arith) f
