-- The bytes of words and of decimal numbers, and what it means that a text was put into a buffer. Assumes nothing.
use Rattle.std.specs.Prelude.{ℕ, zero, suc, ◌+◌, ◌/◌, ◌%◌, ◌≤◌, ◌≡◌, cond, List, [], ◌∷◌, ◌++◌, ltb, ℤ, pos, negsuc, length, take, drop}
use Prim.Native.Char.{code}
use Prim.Native.String.{String, [] as []ˢ, ◌∷◌ as ◌∷ˢ◌}

-- The codes of the characters of a text, in order.
abbrev pub ascii : String → List ℕ
ascii []ˢ = []
ascii (c ∷ˢ s) = code c ∷ ascii s

-- The text of one digit: the code of `0` is 48, and the others follow it.
abbrev pub digit : ℕ → List ℕ
digit d = (48 + d) ∷ []

-- The decimal digits of n, the most significant first, where n is below the first argument.
-- Below 10 it is one digit. From 10 on it is the digits of n / 10 and then the digit n % 10.
-- The test picks a function of n, so that antt computes only the case that holds.
unfoldable pub decimal_below : ℕ → ℕ → List ℕ
decimal_below zero n = []
decimal_below (suc bound) n = cond (ltb n 10) digit (λ m. decimal_below bound (m / 10) ++ digit (m % 10)) n

-- The shortest decimal digits of n, the most significant first. 0 is the one digit 0.
unfoldable pub decimal : ℕ → List ℕ
decimal n = decimal_below (suc n) n

-- An integer: its decimal digits, with a minus sign in front where it is below 0. `negsuc n` is -(n + 1).
unfoldable pub signed : ℤ → List ℕ
signed (pos n) = decimal n
signed (negsuc n) = ascii "-" ++ decimal (n + 1)

-- The buffer `old` with `text` put at `at`. What is before and after it stays.
unfoldable pub written : List ℕ → ℕ → List ℕ → List ℕ
written old at text = take at old ++ text ++ drop (at + length text) old

-- `text`, of at most `most` bytes, was put into the buffer `old` at `at`, where it fits. `new` is the buffer after it and `next` the place past it.
pub record Written (most : ℕ) (old : List ℕ) (at : ℕ) (text new : List ℕ) (next : ℕ) : Type 0 where
  pub short : length text ≤ most
  pub fits : at + length text ≤ length old
  pub buffer : new ≡ written old at text
  pub place : next ≡ at + length text
