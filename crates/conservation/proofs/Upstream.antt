-- What a unit gathers is the sum over the units at or above it. Assumes nothing.
use Prim.Native.Nat.{ℕ, zero, suc, pred, ◌+◌, ◌≤◌, ◌<◌}
use mathlib.Core.Path.{◌≡◌, refl, sym, ap, ap₂, ◌∙◌}
use mathlib.Core.Logic.{⊎_elim}
use mathlib.Core.Bool.{Bool, true, false, ◌||◌}
use lib.Dec.{eqb}
use borrow.Author.Tests.{eqb-true, eq-eqb, ne_eqb}
use native.Mathlib.Omega.{arith}
use Rattle.laws.specs.Sum.{naturals, sum_of, only}
use Rattle.laws.specs.Gather.{gather}
use Rattle.laws.proofs.Cases.{by_bool, by_lt, by_eq}
use Rattle.laws.proofs.Gathering.{sum_same, sum_plus, gather_is}
use Rattle.model.specs.View.{View}
use Rattle.river.specs.Flow.{downstream, Ready}
use Rattle.reach.specs.Reach.{lies_below}
use Rattle.reach.proofs.Ways.{Onto, onto, below_none, below_next, below_outlet}
use Rattle.conservation.specs.Demand3.{at_or_above}
use Rattle.conservation.proofs.Sums.{sum_zero, sum_single, sum_swap, sum_only, only_zero, only_is, only_not, only_plus}

-- What the units at or above unit j have together.
abbrev from_above : View → (ℕ → ℕ) → ℕ → ℕ
from_above v x j = sum_of naturals v.units (λ k. only naturals (at_or_above v j k) (x k))

-- The amount a of unit k, counted once for each unit that k is at or above and that drains straight into unit j.
abbrev through : View → ℕ → ℕ → ℕ → ℕ
through v j k a = sum_of naturals j (λ i. only naturals (eqb (downstream v i) (suc j)) (only naturals (at_or_above v i k) a))

-- Of two tests that do not both hold, an amount counts under one or the other.
only_either : (s t : Bool) (a : ℕ) → (s ≡ true → t ≡ false) → only naturals (s || t) a ≡ only naturals s a + only naturals t a
only_either true t a e = rw (e refl) (omega arith)
only_either false t a e = omega arith

only_first : (s t : Bool) (a : ℕ) → t ≡ false → only naturals (s || t) a ≡ only naturals s a
only_first true t a e = refl
only_first false t a e = rw e

only_here : (t s : Bool) (a : ℕ) → s ≡ true → only naturals t (only naturals s a) ≡ only naturals t a
only_here t s a e = rw e

only_elsewhere : (t s : Bool) (a : ℕ) → s ≡ false → only naturals t (only naturals s a) ≡ 0
only_elsewhere t s a e = rw e (only_zero t)

-- A test of an index, made of the number.
number_is : (p d j : ℕ) → d ≡ suc p → eqb p j ≡ eqb d (suc j)
number_is p d j e =
    by_eq p j
    (λ q. eq-eqb p j q ∙ sym (eq-eqb d (suc j) (omega arith)))
    (λ q. ne_eqb p j q ∙ sym (ne_eqb d (suc j) (λ z. q (omega arith))))

module _ (v : View) (r : Ready v) where
  -- A unit does not drain into a unit before it.
  not_back : (k j : ℕ) → k < v.units → j ≤ k → downstream v k ≡ suc j → ⊥
  not_back k j h g e = ⊎_elim (λ q. omega arith) (λ q. omega arith) (r.onward k h)

  -- A unit that is no outlet drains into a later unit of the balance.
  onto_next : (k : ℕ) → k < v.units → (downstream v k ≡ 0 → ⊥) → Onto (downstream v) v.units k
  onto_next k h e = onto (downstream v) v.units (record { onward = r.onward; within = r.within }) k h e

  -- What unit k alone brings straight into unit j.
  straight : (k j a : ℕ) → k < v.units
      → sum_of naturals j (λ i. only naturals (eqb (downstream v i) (suc j)) (only naturals (eqb k i) a)) ≡ only naturals (eqb (downstream v k) (suc j)) a
  straight k j a h =
      by_lt k j
      (λ g.
      sum_single j k _ g (λ i q z. only_elsewhere (eqb (downstream v i) (suc j)) (eqb k i) a (ne_eqb k i (λ w. z (sym w))))
      ∙ only_here (eqb (downstream v k) (suc j)) (eqb k k) a (eq-eqb k k refl))
      (λ g.
      sum_zero j _ (λ i q. only_elsewhere (eqb (downstream v i) (suc j)) (eqb k i) a (ne_eqb k i (λ w. omega arith)))
      ∙ sym (only_not (eqb (downstream v k) (suc j)) a (ne_eqb (downstream v k) (suc j) (not_back k j h g))))

  -- A unit is above no unit before it.
  not_above : (k i : ℕ) → k < v.units → i < k → at_or_above v i k ≡ false
  not_above k i h g =
      rw (ne_eqb k i (λ w. omega arith))
      (by_bool (lies_below v k i) (λ e. absurd (omega (arith, (below_outlet v r k i h e).later))) (λ e. e))

  -- An outlet is above no other unit.
  outlet_only : (k i a : ℕ) → downstream v k ≡ 0 → only naturals (at_or_above v i k) a ≡ only naturals (eqb k i) a
  outlet_only k i a e = only_first (eqb k i) (lies_below v k i) a (below_none v k i e)

  -- A unit is at or above itself and the units that its downstream unit is at or above.
  next_only : (k i a : ℕ) → k < v.units → (downstream v k ≡ 0 → ⊥)
      → only naturals (at_or_above v i k) a ≡ only naturals (eqb k i) a + only naturals (at_or_above v i (pred (downstream v k))) a
  next_only k i a h e =
      let p = pred (downstream v k) in
      let o = onto_next k h e in
      ap (λ (t : Bool). only naturals (eqb k i || t) a) (below_next v r k i h e)
      ∙ only_either (eqb k i) (at_or_above v i p) a
      (λ q. not_above p i o.inside (omega (arith, o.later, eqb-true k i q)))

  -- The same under a test, summed.
  next_sum : (k j a : ℕ) → k < v.units → (downstream v k ≡ 0 → ⊥)
      → through v j k a ≡ only naturals (eqb (downstream v k) (suc j)) a + through v j (pred (downstream v k)) a
  next_sum k j a h e =
      let p = pred (downstream v k) in
      sum_same naturals j _ _
      (λ i q.
      ap (only naturals (eqb (downstream v i) (suc j))) (next_only k i a h e)
      ∙ only_plus (eqb (downstream v i) (suc j)) (only naturals (eqb k i) a) (only naturals (at_or_above v i p) a))
      ∙ sum_plus j (λ i. only naturals (eqb (downstream v i) (suc j)) (only naturals (eqb k i) a)) (λ i. only naturals (eqb (downstream v i) (suc j)) (only naturals (at_or_above v i p) a))
      ∙ ap (λ (s : ℕ). s + through v j p a) (straight k j a h)

  outlet_sum : (k j a : ℕ) → k < v.units → downstream v k ≡ 0 → through v j k a ≡ 0
  outlet_sum k j a h e =
      sum_same naturals j _ _ (λ i q. ap (only naturals (eqb (downstream v i) (suc j))) (outlet_only k i a e))
      ∙ straight k j a h
      ∙ only_not (eqb (downstream v k) (suc j)) a (ne_eqb (downstream v k) (suc j) (λ z. omega arith))

  -- A unit at or above unit j is j, or at or above one unit that drains straight into j.
  above_one : (way k j a : ℕ) → k < v.units → v.units ≤ way + k
      → only naturals (at_or_above v j k) a ≡ through v j k a + only naturals (eqb k j) a
  above_one zero k j a h g = absurd (omega arith)
  above_one (suc way) k j a h g =
      by_eq (downstream v k) 0
      (λ e. omega (arith, outlet_only k j a e, outlet_sum k j a h e))
      (λ e.
      let p = pred (downstream v k) in
      let o = onto_next k h e in
      let m : only naturals (eqb p j) a ≡ only naturals (eqb (downstream v k) (suc j)) a = ap (λ (t : Bool). only naturals t a) (number_is p (downstream v k) j o.next) in
      omega (arith, next_only k j a h e, next_sum k j a h e, above_one way p j a o.inside (omega (arith, o.later)), m))

  -- The amounts of the units at or above satisfy the sentence of gathering.
  above_is : (x : ℕ → ℕ) (j : ℕ) → j < v.units
      → from_above v x j ≡ sum_of naturals j (λ i. only naturals (eqb (downstream v i) (suc j)) (from_above v x i)) + x j
  above_is x j h =
      sum_same naturals v.units _ _ (λ k g. above_one v.units k j (x k) g (omega arith))
      ∙ sum_plus v.units (λ k. through v j k (x k)) (λ k. only naturals (eqb k j) (x k))
      ∙ ap₂ (λ (a b : ℕ). a + b)
      (sum_swap v.units j (λ k i. only naturals (eqb (downstream v i) (suc j)) (only naturals (at_or_above v i k) (x k)))
      ∙ sum_same naturals j _ _ (λ i q. sum_only (eqb (downstream v i) (suc j)) v.units (λ k. only naturals (at_or_above v i k) (x k))))
      (sum_single v.units j _ h (λ k g z. only_not (eqb k j) (x k) (ne_eqb k j z))
      ∙ only_is (eqb j j) (x j) (eq-eqb j j refl))

  gathers_to : (x : ℕ → ℕ) (bound j : ℕ) → j < bound → j < v.units → gather naturals (downstream v) x j ≡ from_above v x j
  gathers_to x zero j g h = absurd (omega arith)
  gathers_to x (suc bound) j g h =
      gather_is naturals (downstream v) x j
      ∙ ap (λ (s : ℕ). s + x j)
      (sum_same naturals j _ _ (λ i q. ap (only naturals (eqb (downstream v i) (suc j))) (gathers_to x bound i (omega arith) (omega arith))))
      ∙ sym (above_is x j h)

-- What unit j gathers is the sum over the units at or above it.
pub gathers_above : (v : View) → Ready v → (x : ℕ → ℕ) (j : ℕ) → j < v.units
    → gather naturals (downstream v) x j ≡ sum_of naturals v.units (λ k. only naturals (at_or_above v j k) (x k))
gathers_above v r x j h = gathers_to v r x (suc j) j (omega arith) h
