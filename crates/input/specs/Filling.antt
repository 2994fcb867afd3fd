-- Reading until a buffer is full or nothing is left.
use Rattle.std.specs.Prelude.{ℕ, ◌<◌, List, length, take, Option, Result, MatchResult}
use Rattle.std.specs.Io.KnownBytes.{Consumes, IsAtEnd}

-- `Ok(n)`: the first n bytes of the buffer are the next n that were left to read, and the buffer has room for more only where nothing is left.
-- An error: the buffer was not full yet, and what was read before stands at its front. What stands behind the bytes read is not said.
abbrev pub Filled : {E : Type 0} → Option (List ℕ) → Option (List ℕ) → Result ℕ E → List ℕ → Type 0
Filled old new r buf =
    MatchResult r
    (λ n. Consumes old new (take n buf) × (n < length buf → IsAtEnd new))
    (λ _. (n : ℕ) × (n < length buf) × Consumes old new (take n buf))
