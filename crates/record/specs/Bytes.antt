-- Fields of a record, little-endian. Assumes nothing.
use Rattle.std.specs.Prelude.{ℕ, ◌+◌, ◌*◌, ◌<◌, ◌≡◌, List, get_or, ℤ}
use Rattle.laws.specs.Signed.{signed32}

-- 8, 16 and 32 bits at an offset.
abbrev pub bits8 : List ℕ → ℕ → ℕ
bits8 s i = get_or s i 0

abbrev pub bits16 : List ℕ → ℕ → ℕ
bits16 s i = bits8 s i + 256 * bits8 s (i + 1)

abbrev pub bits32 : List ℕ → ℕ → ℕ
bits32 s i = bits16 s i + 65536 * bits16 s (i + 2)

-- 32 bits, signed.
abbrev pub signed_bits32 : List ℕ → ℕ → ℤ
signed_bits32 s i = signed32 (bits32 s i)

-- 16 bits that were read, with their bound.
pub record Half (s : List ℕ) (i r : ℕ) : Type 0 where
  pub value : r ≡ bits16 s i
  pub small : r < 65536
