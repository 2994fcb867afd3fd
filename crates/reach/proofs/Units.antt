-- The ways down over views whose units drain alike are the same; so are those over the units of a view alone. Assumes nothing.
use Prim.Native.Nat.{ℕ, zero, suc, pred, ◌<◌}
use mathlib.Core.Path.{◌≡◌, refl, ap}
use mathlib.Core.Bool.{Bool, false, cond, ◌||◌}
use lib.Dec.{eqb}
use Rattle.model.specs.View.{View}
use Rattle.river.specs.Flow.{downstream, Ready}
use Rattle.river.proofs.Units.{AlikeUnits, alone}
use Rattle.reach.specs.Reach.{below_to, lies_below, outlet_to, outlet}
use Rattle.reach.proofs.Ways.{outlet_same, below_same}

module _ (v w : View) (s : AlikeUnits v w) (r : Ready v) where
  pub outlet_units : (j : ℕ) → j < v.units → outlet w j ≡ outlet v j
  outlet_units j h = outlet_same v w r s.count s.drains j h

  pub below_units : (u x : ℕ) → u < v.units → lies_below w u x ≡ lies_below v u x
  below_units u x h = below_same v w r s.count s.drains u x h

to_alone : (v : View) (way j : ℕ) → outlet_to (alone v) way j ≡ outlet_to v way j
unfolding outlet_to
to_alone v zero j = refl
to_alone v (suc way) j = ap (λ (k : ℕ). cond (eqb (downstream v j) 0) j k) (to_alone v way (pred (downstream v j)))

pub outlet_alone : (v : View) (j : ℕ) → outlet (alone v) j ≡ outlet v j
unfolding outlet
outlet_alone v j = to_alone v v.units j

below_to_alone : (v : View) (way u w : ℕ) → below_to (alone v) way u w ≡ below_to v way u w
unfolding below_to
below_to_alone v zero u w = refl
below_to_alone v (suc way) u w =
    ap (λ (x : Bool). cond (eqb (downstream v u) 0) false (eqb (pred (downstream v u)) w || x)) (below_to_alone v way (pred (downstream v u)) w)

pub below_alone : (v : View) (u w : ℕ) → lies_below (alone v) u w ≡ lies_below v u w
unfolding lies_below
below_alone v u w = below_to_alone v v.units u w
