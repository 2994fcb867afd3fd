-- Writing a whole text, or a beginning of it where a write fails.
use Rattle.std.specs.Prelude.{ℕ, ◌<◌, List, length, take, Option, Result, MatchResult}
use Rattle.std.specs.Io.KnownBytes.{Appends}

-- The bytes that a writer holds grew by a beginning of the text that is shorter than the text, maybe by nothing.
abbrev pub AppendsBeginning : Option (List ℕ) → Option (List ℕ) → List ℕ → Type 0
AppendsBeginning old new text = (n : ℕ) × (n < length text) × Appends old new (take n text)

-- `Ok`: they grew by the whole text. An error: by a beginning of it.
abbrev pub Appended : {T E : Type 0} → Option (List ℕ) → Option (List ℕ) → Result T E → List ℕ → Type 0
Appended old new r text = MatchResult r (λ _. Appends old new text) (λ _. AppendsBeginning old new text)
