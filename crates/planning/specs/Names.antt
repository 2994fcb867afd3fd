-- Names of eight bytes, and the places that hold them. Assumes nothing.
use Rattle.std.specs.Prelude.{ℕ, Bool, true, false, not, eqb, Option, Some, None}
use Rattle.std.specs.Cmp.Lexicographic.{pointwise}
use Rattle.laws.specs.Sum.{every}
use Rattle.model.specs.Answers.{first}
use Rattle.planning.specs.declared.Name.{Name}

-- Up to four balances can be kept, under a name of eight bytes.
abbrev pub place_limit : ℕ
place_limit = 4

abbrev pub name_length : ℕ
name_length = 8

-- Two names are the same if each of their bytes is.
abbrev pub same_name : Name → Name → Bool
same_name a b = pointwise eqb a.bytes b.bytes

-- The first of n places that has a name.
abbrev pub place_of : (ℕ → Name) → ℕ → Name → Option ℕ
place_of names n name = first n (λ k. same_name (names k) name)

-- There is such a place.
abbrev pub is_found : Option ℕ → Bool
is_found (Some k) = true
is_found None = false

-- No two of n places have the same name.
unfoldable pub distinct : (ℕ → Name) → ℕ → Bool
distinct names n = every n (λ k. every k (λ j. not (same_name (names j) (names k))))
