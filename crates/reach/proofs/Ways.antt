-- Laws of the ways down a tree: of the outlets and of the units that lie below. Assumes nothing.
use Prim.Native.Nat.{ℕ, zero, suc, pred, ◌+◌, ◌≤◌, ◌<◌}
use mathlib.Core.Path.{◌≡◌, refl, sym, ap, ◌∙◌}
use mathlib.Core.Logic.{⊎_elim}
use mathlib.Core.Bool.{Bool, true, false, true≢false, ◌||◌}
use lib.Dec.{eqb}
use borrow.Author.Tests.{eq-eqb, ne_eqb}
use native.Mathlib.Omega.{arith}
use Rattle.laws.proofs.Cases.{by_eq}
use Rattle.model.specs.View.{View}
use Rattle.river.specs.Flow.{downstream, Ready}
use Rattle.river.proofs.Reserves.{below_of}
use Rattle.reach.specs.Reach.{below_to, lies_below, outlet_to, outlet, same_basin}
use Rattle.reach.specs.Passes.{TreeNumbers, below_by}

-- The outlet along a way of any length.
to_self : (v : View) (way j : ℕ) → downstream v j ≡ 0 → outlet_to v way j ≡ j
unfolding outlet_to
to_self v zero j e = refl
to_self v (suc way) j e = rw (eq-eqb (downstream v j) 0 e)

to_next : (v : View) (way j : ℕ) → (downstream v j ≡ 0 → ⊥) → outlet_to v (suc way) j ≡ outlet_to v way (pred (downstream v j))
unfolding outlet_to
to_next v way j e = rw (ne_eqb (downstream v j) 0 e)

-- A longer way than there are units changes nothing.
to_longer : (v : View) → Ready v → (f g j : ℕ) → j < v.units → v.units ≤ f + j → v.units ≤ g + j → outlet_to v f j ≡ outlet_to v g j
to_longer v r zero g j h p q = absurd (omega arith)
to_longer v r (suc f) zero j h p q = absurd (omega arith)
to_longer v r (suc f) (suc g) j h p q =
    by_eq (downstream v j) 0
    (λ e. to_self v (suc f) j e ∙ sym (to_self v (suc g) j e))
    (λ e.
    let b = below_of v r j h e in
    to_next v f j e
    ∙ to_longer v r f g (pred (downstream v j)) b.within (omega (arith, b.later)) (omega (arith, b.later))
    ∙ sym (to_next v g j e))

-- A unit's outlet is itself, if its downstream is 0, or its downstream unit's outlet.
pub outlet_self : (v : View) (j : ℕ) → downstream v j ≡ 0 → outlet v j ≡ j
unfolding outlet
outlet_self v j e = to_self v v.units j e

pub outlet_next : (v : View) → Ready v → (j : ℕ) → j < v.units → (downstream v j ≡ 0 → ⊥) → outlet v j ≡ outlet v (pred (downstream v j))
unfolding outlet
outlet_next v r j h e = to_longer v r v.units (suc v.units) j h (omega arith) (omega arith) ∙ to_next v v.units j e

-- A unit has the outlet of the unit that it drains into.
pub upstream_same : (v : View) → Ready v → (k j : ℕ) → k < v.units → downstream v k ≡ suc j → outlet v k ≡ outlet v j
upstream_same v r k j h e = outlet_next v r k h (omega arith) ∙ ap (λ (d : ℕ). outlet v (pred d)) e

-- A unit's outlet drains nowhere.
to_drains : (v : View) → Ready v → (way j : ℕ) → j < v.units → v.units ≤ way + j → downstream v (outlet_to v way j) ≡ 0
to_drains v r zero j h q = absurd (omega arith)
to_drains v r (suc way) j h q =
    by_eq (downstream v j) 0
    (λ e. rw (to_self v (suc way) j e) e)
    (λ e.
    let b = below_of v r j h e in
    rw (to_next v way j e) (to_drains v r way (pred (downstream v j)) b.within (omega (arith, b.later))))

pub outlet_drains : (v : View) → Ready v → (j : ℕ) → j < v.units → downstream v (outlet v j) ≡ 0
unfolding outlet
outlet_drains v r j h = to_drains v r v.units j h (omega arith)

-- Which units lie below, by downstream numbers and along a way of any length.
module _ (down : ℕ → ℕ) where
  by_none : (way u w : ℕ) → down u ≡ 0 → below_by down way u w ≡ false
  unfolding below_by
  by_none zero u w e = refl
  by_none (suc way) u w e = rw (eq-eqb (down u) 0 e)

  by_next : (way u w : ℕ) → (down u ≡ 0 → ⊥) → below_by down (suc way) u w ≡ eqb (pred (down u)) w || below_by down way (pred (down u)) w
  unfolding below_by
  by_next way u w e = rw (ne_eqb (down u) 0 e)

-- The place of the downstream unit.
pub record Onto (down : ℕ → ℕ) (n u : ℕ) : Type 0 where
  pub next : down u ≡ suc (pred (down u))
  pub later : u < pred (down u)
  pub inside : pred (down u) < n

pub onto : (down : ℕ → ℕ) (n : ℕ) → TreeNumbers down n → (u : ℕ) → u < n → (down u ≡ 0 → ⊥) → Onto down n u
onto down n t u h e =
    ⊎_elim
    (λ g. absurd (e g))
    (λ g. record { next = omega arith; later = omega arith; inside = omega (arith, t.within u h) })
    (t.onward u h)

module _ (down : ℕ → ℕ) (n : ℕ) (t : TreeNumbers down n) where
  -- A longer way than there are units changes nothing.
  by_longer : (f g u w : ℕ) → u < n → n ≤ f + u → n ≤ g + u → below_by down f u w ≡ below_by down g u w
  by_longer zero g u w h p q = absurd (omega arith)
  by_longer (suc f) zero u w h p q = absurd (omega arith)
  by_longer (suc f) (suc g) u w h p q =
      by_eq (down u) 0
      (λ e. by_none down (suc f) u w e ∙ sym (by_none down (suc g) u w e))
      (λ e.
      let b = onto down n t u h e in
      by_next down f u w e
      ∙ ap (λ (x : Bool). eqb (pred (down u)) w || x)
      (by_longer f g (pred (down u)) w b.inside (omega (arith, b.later)) (omega (arith, b.later)))
      ∙ sym (by_next down g u w e))

  -- The sentence: unit w lies below u when it is u's downstream unit or lies below that one.
  by_next_of : (u w : ℕ) → u < n → (down u ≡ 0 → ⊥) → below_by down n u w ≡ eqb (pred (down u)) w || below_by down n (pred (down u)) w
  by_next_of u w h e = by_longer n (suc n) u w h (omega arith) (omega arith) ∙ by_next down n u w e

  -- Numbers that agree within the tree lead the same way.
  by_same : (other : ℕ → ℕ) → ((k : ℕ) → k < n → down k ≡ other k) → (f u w : ℕ) → u < n → below_by down f u w ≡ below_by other f u w
  unfolding below_by
  by_same other s zero u w h = refl
  by_same other s (suc f) u w h =
      by_eq (down u) 0
      (λ e. by_none down (suc f) u w e ∙ sym (by_none other (suc f) u w (sym (s u h) ∙ e)))
      (λ e.
      let b = onto down n t u h e in
      by_next down f u w e
      ∙ ap (λ (x : Bool). eqb (pred (down u)) w || x) (by_same other s f (pred (down u)) w b.inside)
      ∙ ap (λ (d : ℕ). eqb (pred d) w || below_by other f (pred d) w) (s u h)
      ∙ sym (by_next other f u w (λ g. e (s u h ∙ g))))

to_by : (v : View) (f u w : ℕ) → below_to v f u w ≡ below_by (downstream v) f u w
unfolding below_to below_by
to_by v zero u w = refl
to_by v (suc f) u w = rw (to_by v f (pred (downstream v u)) w)

below_by_lem : (v : View) (u w : ℕ) → lies_below v u w ≡ below_by (downstream v) v.units u w
unfolding lies_below
below_by_lem v u w = to_by v v.units u w

ready_tree : (v : View) → Ready v → TreeNumbers (downstream v) v.units
ready_tree v r = record { onward = r.onward; within = r.within }

-- Unit w lies below u when it is u's downstream unit or lies below that one.
pub below_none : (v : View) (u w : ℕ) → downstream v u ≡ 0 → lies_below v u w ≡ false
below_none v u w e = below_by_lem v u w ∙ by_none (downstream v) v.units u w e

pub below_next : (v : View) → Ready v → (u w : ℕ) → u < v.units → (downstream v u ≡ 0 → ⊥)
    → lies_below v u w ≡ eqb (pred (downstream v u)) w || lies_below v (pred (downstream v u)) w
below_next v r u w h e =
    below_by_lem v u w
    ∙ by_next_of (downstream v) v.units (ready_tree v r) u w h e
    ∙ ap (λ (x : Bool). eqb (pred (downstream v u)) w || x) (sym (below_by_lem v (pred (downstream v u)) w))

-- A step of a way down onto the unit at index k.
pub below_step : (v : View) → Ready v → (u k w : ℕ) → u < v.units → downstream v u ≡ suc k → lies_below v u w ≡ (eqb k w || lies_below v k w)
below_step v r u k w h e =
    let at : pred (downstream v u) ≡ k = omega arith in
    rw at at (below_next v r u w h (λ g. omega arith))

-- A unit that lies below belongs to the same outlet, and is a later unit of the balance.
pub record Lower (v : View) (u w : ℕ) : Type 0 where
  pub same : outlet v u ≡ outlet v w
  pub later : u < w
  pub inside : w < v.units

to_lower : (v : View) → Ready v → (f u w : ℕ) → u < v.units → below_by (downstream v) f u w ≡ true → Lower v u w
unfolding below_by
to_lower v r zero u w h t = absurd (true≢false (sym t))
to_lower v r (suc f) u w h t =
    by_eq (downstream v u) 0
    (λ e. absurd (true≢false (sym t ∙ by_none (downstream v) (suc f) u w e)))
    (λ e.
    let b = below_of v r u h e in
    let k = pred (downstream v u) in
    let s = outlet_next v r u h e in
    by_eq k w
    (λ g. record { same = s ∙ ap (outlet v) g; later = omega (arith, b.later); inside = omega (arith, b.within) })
    (λ g.
    let l = to_lower v r f k w b.within (missed k w (below_by (downstream v) f k w) g (sym (by_next (downstream v) f u w e) ∙ t)) in
    record { same = s ∙ l.same; later = omega (arith, b.later, l.later); inside = l.inside }))
  where
    missed : (k w : ℕ) (x : Bool) → (k ≡ w → ⊥) → eqb k w || x ≡ true → x ≡ true
    missed k w x g q = rw (ne_eqb k w g) at q

pub below_outlet : (v : View) → Ready v → (u w : ℕ) → u < v.units → lies_below v u w ≡ true → Lower v u w
below_outlet v r u w h t = to_lower v r v.units u w h (sym (below_by_lem v u w) ∙ t)

-- In two views with the same downstream numbers the same units lie below, and the outlets are the same.
pub below_same : (v w : View) → Ready v → w.units ≡ v.units → ((k : ℕ) → k < v.units → downstream w k ≡ downstream v k)
    → (u x : ℕ) → u < v.units → lies_below w u x ≡ lies_below v u x
below_same v w r n s u x h =
    below_by_lem w u x
    ∙ ap (λ (m : ℕ). below_by (downstream w) m u x) n
    ∙ sym (by_same (downstream v) v.units (ready_tree v r) (downstream w) (λ k g. sym (s k g)) v.units u x h)
    ∙ sym (below_by_lem v u x)

to_same : (v w : View) → Ready v → ((k : ℕ) → k < v.units → downstream w k ≡ downstream v k)
    → (f j : ℕ) → j < v.units → outlet_to w f j ≡ outlet_to v f j
unfolding outlet_to
to_same v w r s zero j h = refl
to_same v w r s (suc f) j h =
    by_eq (downstream v j) 0
    (λ e. to_self w (suc f) j (s j h ∙ e) ∙ sym (to_self v (suc f) j e))
    (λ e.
    let b = below_of v r j h e in
    to_next w f j (λ g. e (sym (s j h) ∙ g))
    ∙ ap (λ (d : ℕ). outlet_to w f (pred d)) (s j h)
    ∙ to_same v w r s f (pred (downstream v j)) b.within
    ∙ sym (to_next v f j e))

pub outlet_same : (v w : View) → Ready v → w.units ≡ v.units → ((k : ℕ) → k < v.units → downstream w k ≡ downstream v k)
    → (j : ℕ) → j < v.units → outlet w j ≡ outlet v j
unfolding outlet
outlet_same v w r n s j h = ap (λ (m : ℕ). outlet_to w m j) n ∙ to_same v w r s v.units j h

-- The outlet of unit j, or some unit that drains there, straight or through others: these are the units of j's basin.
module _ (v : View) (r : Ready v) (o : ℕ) (e : downstream v o ≡ 0) where
  drains_to : (way k : ℕ) → k < v.units → v.units ≤ way + k → eqb (outlet v k) o ≡ (eqb k o || lies_below v k o)
  drains_to zero k h g = absurd (omega arith)
  drains_to (suc way) k h g =
      by_eq (downstream v k) 0
      (λ q. ap (λ (m : ℕ). eqb m o) (outlet_self v k q) ∙ last (eqb k o) (lies_below v k o) (below_none v k o q))
      (λ q.
      let d = pred (downstream v k) in
      let b = below_of v r k h q in
      ap (λ (m : ℕ). eqb m o) (outlet_next v r k h q)
      ∙ drains_to way d b.within (omega (arith, b.later))
      ∙ sym (below_next v r k o h q)
      ∙ rest (eqb k o) (lies_below v k o) (ne_eqb k o (λ z. q (ap (downstream v) z ∙ e))))
    where
      last : (a b : Bool) → b ≡ false → a ≡ (a || b)
      last true b p = refl
      last false b p = sym p

      rest : (a b : Bool) → a ≡ false → b ≡ (a || b)
      rest a b p = rw p

pub basin_is : (v : View) → Ready v → (j k : ℕ) → j < v.units → k < v.units
    → same_basin v j k ≡ (eqb k (outlet v j) || lies_below v k (outlet v j))
basin_is v r j k h g = drains_to v r (outlet v j) (outlet_drains v r j h) v.units k g (omega arith)
