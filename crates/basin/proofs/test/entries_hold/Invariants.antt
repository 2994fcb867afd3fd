-- `basin::entries_hold` meets its contract. The loop's invariant: each of the places so far is sound, and they are added up. Assumes nothing.
use Prim.Native.Nat.{ℕ, ◌<◌}
use mathlib.Core.Path.{◌≡◌}
use mathlib.Core.Bool.{true}
use lib.ListN.{get_or}
use Rattle.model.specs.Fresh.{empty_place}
use Rattle.titles.specs.Titled.{TitledAll}
use Rattle.basin.specs.Sound.{sound_place}
use Rattle.basin.proofs.test.entries_hold.Given as goal

abbrev pub invariant-loop-title : goal.invariant-loop-title
invariant-loop-title l =
    ((j : ℕ) → j < l.title-index → sound_place l.b.unit_count l.b.aquifer_count (get_or l.b.titles j empty_place) ≡ true)
    × TitledAll l.b.titles l.title-index l.sums
