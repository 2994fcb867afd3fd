-- What the entries must allow before a title is put in or taken back. Assumes nothing.
use Prim.{Unit as Always}
use Rattle.std.specs.Prelude.{ℕ, pred, ◌≤◌, ◌<◌, List, get_or}
use Rattle.model.specs.declared.Unit.{Unit}
use Rattle.model.specs.declared.Aquifer.{Aquifer}
use Rattle.model.specs.declared.Title.{Title}
use Rattle.model.specs.Fresh.{empty_unit, empty_aquifer}
use Rattle.model.specs.Limits.{unit_limit, aquifer_limit}
use Rattle.titles.specs.Posting.{Posting, nothing, post, Postings, postings}
use Rattle.titles.specs.Adds.{return_of}

-- The number of a posting is there, among so many units or aquifers.
abbrev pub There : ℕ → Posting → Type 0
There count nothing = Always {0}
There count (post number amount) = (0 < number) × (number ≤ count)

-- The numbers of all postings are there.
pub record Names (units aquifers : ℕ) (p : Postings) : Type 0 where
  pub extraction : There units p.extraction
  pub exports : There units p.exports
  pub imports : There units p.imports
  pub returns : There units p.returns
  pub wells : There aquifers p.wells

-- The number of a posting is there, and its amount is no more than what the entry there leaves. How much an entry leaves is said by `left`.
abbrev pub Takes : (ℕ → ℕ) → ℕ → (ℕ → ℕ) → Posting → Type 0
Takes left count entry nothing = Always {0}
Takes left count entry (post number amount) = (0 < number) × (number ≤ count) × (amount ≤ left (entry (pred number)))

-- Units take what is posted to their four entries, and aquifers what is posted to their extraction.
pub record UnitsTake (left : ℕ → ℕ) (count : ℕ) (unit : ℕ → Unit) (p : Postings) : Type 0 where
  pub extraction : Takes left count (λ k. (unit k).extraction) p.extraction
  pub exports : Takes left count (λ k. (unit k).exports) p.exports
  pub imports : Takes left count (λ k. (unit k).imports) p.imports
  pub returns : Takes left count (λ k. (unit k).returns) p.returns

abbrev pub WellsTake : (ℕ → ℕ) → ℕ → (ℕ → Aquifer) → Postings → Type 0
WellsTake left count aquifer p = Takes left count (λ k. (aquifer k).extraction) p.wells

-- The same of the arrays of a balance.
abbrev pub UnitArrayTakes : (ℕ → ℕ) → Title → List Unit → Type 0
UnitArrayTakes left t us = UnitsTake left unit_limit (λ k. get_or us k empty_unit) (postings t (return_of t))

abbrev pub WellArrayTakes : (ℕ → ℕ) → Title → List Aquifer → Type 0
WellArrayTakes left t ws = WellsTake left aquifer_limit (λ k. get_or ws k empty_aquifer) (postings t (return_of t))

-- The four entries of one unit leave room for these amounts.
pub record Leaves (left : ℕ → ℕ) (u : Unit) (extraction exports imports returns : ℕ) : Type 0 where
  pub of_extraction : extraction ≤ left u.extraction
  pub of_exports : exports ≤ left u.exports
  pub of_imports : imports ≤ left u.imports
  pub of_returns : returns ≤ left u.returns
