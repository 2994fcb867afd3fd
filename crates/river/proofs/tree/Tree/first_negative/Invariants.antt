-- `Tree::first_negative` meets its contract. The loop's invariant: none of the first i units has a negative flow, and `arrived` holds what those
-- contributed to each unit. Assumes nothing.
use Rattle.std.proofs.Common.{ℕ, ◌≡◌, ◌<◌, true, List}
use Rattle.std.specs.Int.Signed.{non_neg}
use Rattle.laws.proofs.Arrays.{Arrived}
use Rattle.model.specs.View.{View}
use Rattle.river.specs.Units.{units_of}
use Rattle.river.specs.Flow.{downstream, flow}
use Rattle.river.specs.Reserve.{contribution}
use Rattle.river.proofs.tree.Tree.first_negative.Given as goal

pub record Flowing (v : View) (i : ℕ) (w : List ℕ) : Type 0 where
  pub passed : (k : ℕ) → k < i → non_neg (flow v k) ≡ true
  pub arrived : Arrived 64 (downstream v) (contribution v) i w

abbrev pub invariant-loop-i : goal.invariant-loop-i
invariant-loop-i l = Flowing (units_of l.units) l.i l.arrived
