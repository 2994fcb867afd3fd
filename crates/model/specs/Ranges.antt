-- The ranges of the entries of units and aquifers. Assumes nothing.
use Rattle.std.specs.Prelude.{ℕ, Bool, ◌&&◌, ◌||◌, List, [], ◌∷◌, eqb, leb, ltb, ℤ, pos, neg_ℤ}
use Rattle.std.specs.List.{list_all}
use Rattle.std.specs.Int.Signed.{le_z}
use Rattle.model.specs.declared.Aquifer.{Aquifer}
use Rattle.model.specs.Limits.{term_limit}

-- A term runs from 0 to 10,000,000, a storage change from −10,000,000 to 10,000,000.
abbrev pub is_term : ℕ → Bool
is_term x = leb x term_limit

abbrev pub are_terms : List ℕ → Bool
are_terms xs = list_all is_term xs

abbrev pub is_storage : ℤ → Bool
is_storage z = le_z (neg_ℤ (pos term_limit)) z && le_z z (pos term_limit)

-- Only an outlet has a commitment.
abbrev pub is_committed : ℕ → ℕ → Bool
is_committed d x = eqb d 0 || eqb x 0

-- A downstream number is 0, or above the unit's own number.
abbrev pub is_onward : ℕ → ℕ → Bool
is_onward own d = eqb d 0 || ltb own d

-- Each volume among an aquifer's entries is a term, and its storage change is in its range.
abbrev pub aquifer_within : Aquifer → Bool
aquifer_within a = are_terms (a.natural ∷ a.pumped ∷ a.committed ∷ a.extraction ∷ []) && is_storage a.storage
