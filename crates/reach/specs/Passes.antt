-- The replies of the passes that work out which units lie below and which outlet a unit drains to. Assumes nothing.
use Rattle.std.specs.Prelude.{ℕ, zero, suc, pred, ◌≤◌, ◌<◌, ◌≡◌, ◌⊎◌, Bool, false, cond, ◌||◌, List, eqb, length, get_or}
use Rattle.model.specs.View.{View}
use Rattle.model.specs.Limits.{unit_limit}
use Rattle.reach.specs.Reach.{outlet}

-- Downstream numbers that make a tree of n units: each is 0 or above its own unit's number, and at most n.
pub record TreeNumbers (down : ℕ → ℕ) (n : ℕ) : Type 0 where
  pub onward : (k : ℕ) → k < n → (down k ≡ 0) ⊎ (suc k < down k)
  pub within : (k : ℕ) → k < n → down k ≤ n

-- Unit w lies below u when it is u's downstream unit or lies below that one, by downstream numbers; along a way of at most so many units.
unfoldable pub below_by : (ℕ → ℕ) → ℕ → ℕ → ℕ → Bool
below_by down zero u w = false
below_by down (suc way) u w = cond (eqb (down u) 0) false (eqb (pred (down u)) w || below_by down way (pred (down u)) w)

-- The outlet of each unit, and 0 in the unused places.
pub record Outlets (v : View) (r : List ℕ) : Type 0 where
  pub long : length r ≡ unit_limit
  pub each : (j : ℕ) → j < v.units → get_or r j 0 ≡ outlet v j
  pub rest : (j : ℕ) → v.units ≤ j → get_or r j 0 ≡ 0
