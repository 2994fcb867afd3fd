-- What the functions over the register give back. Assumes nothing.
use Rattle.std.specs.Prelude.{ℕ, ◌+◌, ◌<◌, ◌≤◌, ◌*◌, ◌≡◌, List, length, get_or, replicate}
use Rattle.laws.specs.Sum.{naturals, sum_of}
use Rattle.model.specs.declared.Place.{Place}
use Rattle.model.specs.Fresh.{empty_place}
use Rattle.titles.specs.Slot.{Slot, Extraction, Exports, Imports, Returns, WellExtraction}
use Rattle.titles.specs.declared.Sums.{Sums}
use Rattle.model.specs.declared.Title.{Title}
use Rattle.model.specs.Limits.{unit_limit, title_limit}
use Rattle.titles.specs.Posting.{Posting, posts, slot, postings}
use Rattle.titles.specs.Adds.{return_of, place_adds}

-- Sixty-four sums, one for each index: what the first n places of a list add together to an entry of the unit or aquifer there.
pub record Titled (titles : List Place) (n : ℕ) (s : Slot) (r : List ℕ) : Type 0 where
  pub places : length r ≡ unit_limit
  pub sums : (j : ℕ) → j < unit_limit → get_or r j 0 ≡ sum_of naturals n (λ k. place_adds (get_or titles k empty_place) s j)
  pub within : (j : ℕ) → j < unit_limit → get_or r j 0 ≤ n * 4294967295

-- Sixty-four amounts that have room for one more posting each.
pub record HasRoom (xs : List ℕ) : Type 0 where
  pub places : length xs ≡ unit_limit
  pub room : (j : ℕ) → j < unit_limit → get_or xs j 0 ≤ title_limit * 4294967295

-- What is posted, a number of 32 bits, is added at each index.
pub record Raised (xs : List ℕ) (p : Posting) (r : List ℕ) : Type 0 where
  pub places : length r ≡ unit_limit
  pub within : (j : ℕ) → posts p j ≤ 4294967295
  pub sums : (j : ℕ) → j < unit_limit → get_or r j 0 ≡ get_or xs j 0 + posts p j

-- The sums of one entry, among those of all five.
abbrev pub sums_of : Sums → Slot → List ℕ
sums_of r Extraction = r.extraction
sums_of r Exports = r.exports
sums_of r Imports = r.imports
sums_of r Returns = r.returns
sums_of r WellExtraction = r.wells

-- Five lists of sums, in the order of the entries.
abbrev pub five : List ℕ → List ℕ → List ℕ → List ℕ → List ℕ → Sums
five extraction exports imports returns wells =
    record { extraction = extraction; exports = exports; imports = imports; returns = returns; wells = wells }

-- Nothing added to any entry.
abbrev pub no_sums : Sums
no_sums =
    let none = replicate unit_limit 0 in
    five none none none none none

-- Each of the five has room for one more posting.
abbrev pub AllHaveRoom : Sums → Type 0
AllHaveRoom r = (s : Slot) → HasRoom (sums_of r s)

-- What a title posts to an entry is added, and that at each of the five.
abbrev pub RaisedBy : Title → Slot → List ℕ → List ℕ → Type 0
RaisedBy t s xs r = Raised xs (slot (postings t (return_of t)) s) r

abbrev pub RaisedAll : Title → Sums → Sums → Type 0
RaisedAll t xs r = (s : Slot) → RaisedBy t s (sums_of xs s) (sums_of r s)

-- Each of the five is what the first n places add together to its entry.
abbrev pub TitledAll : List Place → ℕ → Sums → Type 0
TitledAll titles n r = (s : Slot) → Titled titles n s (sums_of r s)
