-- The ways down a tree of units (document 01, "Titles" and the refusals of GU). Units are given by their index. Assumes nothing.
use Rattle.std.specs.Prelude.{ℕ, zero, suc, pred, Bool, false, cond, ◌||◌, eqb}
use Rattle.model.specs.View.{View}
use Rattle.river.specs.Flow.{downstream}

-- Unit w lies below u when it is u's downstream unit or lies below that one; along a way of at most so many units.
unfoldable pub below_to : View → ℕ → ℕ → ℕ → Bool
below_to v zero u w = false
below_to v (suc way) u w =
    cond (eqb (downstream v u) 0) false (eqb (pred (downstream v u)) w || below_to v way (pred (downstream v u)) w)

-- Unit w lies below unit u. A way down is no longer than the units are many.
unfoldable pub lies_below : View → ℕ → ℕ → Bool
lies_below v u w = below_to v v.units u w

-- A unit's outlet is itself, if its downstream is 0, or its downstream unit's outlet; along a way of at most so many units.
unfoldable pub outlet_to : View → ℕ → ℕ → ℕ
outlet_to v zero j = j
outlet_to v (suc way) j = cond (eqb (downstream v j) 0) j (outlet_to v way (pred (downstream v j)))

-- The outlet of a unit.
unfoldable pub outlet : View → ℕ → ℕ
outlet v j = outlet_to v v.units j

-- Two units belong to one outlet's basin.
abbrev pub same_basin : View → ℕ → ℕ → Bool
same_basin v j k = eqb (outlet v k) (outlet v j)
