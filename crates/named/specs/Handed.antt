-- Files handed to a closure one after the other.
use Rattle.std.specs.Prelude.{ℕ, ◌≤◌, List, length, ◌⊎◌, Result, Ok, Err, MatchResult}
use Rattle.std.specs.List.{FoldsTo}
use Rattle.std.specs.Borrow.{Bor}
use Rattle.std.specs.Fn.{Mut, CalledAt}

module _ {F E : Type 0} (g : Mut F (Bor (List ℕ) × Unit {0}) (Result (Unit {0}) E)) (most : ℕ) where
  -- The closure was called at some texts, one after the other, each of at most `most` bytes, and answered each by `Ok`.
  abbrev pub TakesAll : F → F → Type 0
  TakesAll before after = (files : List (List ℕ)) × FoldsTo (λ p s q. (length s ≤ most) × CalledAt g p s (Ok tt) q) before files after

  -- The same where r is `Ok`. Where r is an error, the closure answered one more text by that error, or was not called again.
  abbrev pub HandedInTurn : F → Result (Unit {0}) E → F → Type 0
  HandedInTurn before r after =
      MatchResult r
      (λ _. TakesAll before after)
      (λ e. TakesAll before after ⊎ ((last : F) × (s : List ℕ) × TakesAll before last × (length s ≤ most) × CalledAt g last s (Err e) after))
