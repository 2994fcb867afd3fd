-- `book::first_missing` meets its contract. Assumes nothing.
use Rattle.std.proofs.Common.{ℕ, ◌≤◌, ◌<◌}
use Rattle.model.specs.View.{view_of}
use Rattle.river.specs.Flow.{downstream}
use Rattle.book.proofs.opening.first_missing.Given as goal

abbrev pub invariant-loop-i : goal.invariant-loop-i
invariant-loop-i l = (k : ℕ) → k < l.i → downstream (view_of l.b) k ≤ l.b.unit_count
