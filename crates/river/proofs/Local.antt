-- What a place gathers depends only on the places at or above it. Assumes nothing.
use Prim.Native.Nat.{ℕ, zero, suc, ◌+◌, ◌≤◌, ◌<◌}
use mathlib.Core.Path.{◌≡◌, refl, ap, ap₂, ◌∙◌}
use mathlib.Core.Bool.{Bool, true, false}
use lib.Dec.{eqb}
use lib.IntN.{ℤ, pos, ◌+ℤ◌}
use lib.Signed.{◌≤ℤ◌}
use borrow.Author.Tests.{eqb-true}
use native.Mathlib.Nat.{le_refl}
use native.Mathlib.Omega.{arith}
use Rattle.laws.specs.Sum.{Adding, integers, only}
use Rattle.laws.specs.Gather.{gather_to, gather}
use Rattle.laws.specs.Signed.{above, below}
use Rattle.laws.proofs.Gathering.{sum_same, related_sum}
use Rattle.laws.proofs.Parts.{plus_parts, le_parts, parts_le}
use Rattle.model.specs.View.{View}
use Rattle.river.specs.Flow.{downstream, net, flow}

-- A relation of three amounts that holds of nothing and is kept by adding holds of what a place of a set gathers, where the set has with
-- each place the places that drain into it, and where the relation holds of the amounts of its places.
module _ {A B C : Type 0} (P : Adding A) (Q : Adding B) (S : Adding C) (R : A → B → C → Type 0)
    (at_none : R P.none Q.none S.none)
    (at-plus : (a a' : A) (b b' : B) (c c' : C) → R a b c → R a' b' c' → R (P.plus a a') (Q.plus b b') (S.plus c c'))
  where
    local_only : (t : Bool) (a : A) (b : B) (c : C) → (t ≡ true → R a b c) → R (only P t a) (only Q t b) (only S t c)
    local_only true a b c r = r refl
    local_only false a b c r = at_none

    module _ (down : ℕ → ℕ) (n : ℕ) (In : ℕ → Type 0) (up : (k j : ℕ) → k < n → down k ≡ suc j → In j → In k)
        (x : ℕ → A) (y : ℕ → B) (z : ℕ → C)
      where
        local_to : (depth j : ℕ) → j < n → In j → ((k : ℕ) → k ≤ j → In k → R (x k) (y k) (z k))
            → R (gather_to P down x depth j) (gather_to Q down y depth j) (gather_to S down z depth j)
        unfolding gather_to
        local_to zero j h i r = at-plus _ _ _ _ _ _ at_none (r j (le_refl j) i)
        local_to (suc d) j h i r =
            at-plus _ _ _ _ _ _
            (related_sum P Q S R at_none at-plus j _ _ _
            (λ k g. local_only (eqb (down k) (suc j)) _ _ _
            (λ t. local_to d k (omega arith) (up k j (omega arith) (eqb-true (down k) (suc j) t) i) (λ l q. r l (omega arith)))))
            (r j (le_refl j) i)

        local_gather : (j : ℕ) → j < n → In j → ((k : ℕ) → k ≤ j → In k → R (x k) (y k) (z k))
            → R (gather P down x j) (gather Q down y j) (gather S down z j)
        unfolding gather
        local_gather j h i r = local_to j j h i r

-- What a place gathers by downstream numbers and amounts that agree at the places before it and at itself.
same_to : {A : Type 0} (P : Adding A) (down other : ℕ → ℕ) (x y : ℕ → A) (depth j : ℕ) → ((k : ℕ) → k < j → down k ≡ other k)
    → ((k : ℕ) → k ≤ j → x k ≡ y k) → gather_to P down x depth j ≡ gather_to P other y depth j
unfolding gather_to
same_to P down other x y zero j s e = ap (P.plus P.none) (e j (le_refl j))
same_to {A} P down other x y (suc d) j s e =
    ap₂ P.plus
    (sum_same P j _ _
    (λ k h. ap (λ (m : ℕ). only P (eqb m (suc j)) (gather_to P down x d k)) (s k h)
    ∙ ap (only P (eqb (other k) (suc j))) (same_to P down other x y d k (λ l g. s l (omega arith)) (λ l g. e l (omega arith)))))
    (e j (le_refl j))

pub same_gather : {A : Type 0} (P : Adding A) (down other : ℕ → ℕ) (x y : ℕ → A) (j : ℕ) → ((k : ℕ) → k < j → down k ≡ other k)
    → ((k : ℕ) → k ≤ j → x k ≡ y k) → gather P down x j ≡ gather P other y j
unfolding gather
same_gather P down other x y j s e = same_to P down other x y j j s e

-- One integer is at most another, by their parts.
abbrev AtMost : ℤ → ℤ → ℤ → Type 0
AtMost a b c = above a + below b ≤ below a + above b

plus_at_most : (a a' b b' : ℤ) → above a + below b ≤ below a + above b → above a' + below b' ≤ below a' + above b'
    → above (a +ℤ a') + below (b +ℤ b') ≤ below (a +ℤ a') + above (b +ℤ b')
plus_at_most a a' b b' p q = omega (arith, plus_parts a a', plus_parts b b')

-- Flows of two views with the same downstream numbers: over a set of units that has with each unit those that drain into it, a unit's flow
-- is no less where no unit of the set adds less.
pub flow_local : (v w : View) → ((k : ℕ) → k < v.units → downstream w k ≡ downstream v k)
    → (In : ℕ → Type 0) → ((k j : ℕ) → k < v.units → downstream v k ≡ suc j → In j → In k)
    → ((k : ℕ) → k < v.units → In k → net (v.unit k) ≤ℤ net (w.unit k))
    → (j : ℕ) → j < v.units → In j → flow v j ≤ℤ flow w j
unfolding flow
flow_local v w s In up m j h i =
    rw (same_gather integers (downstream w) (downstream v) (λ k. net (w.unit k)) _ j (λ k g. s k (omega arith)) (λ k g. refl))
    (parts_le _ _
    (local_gather integers integers integers AtMost (le_refl 0) (λ a a' b b' c c' p q. plus_at_most a a' b b' p q)
    (downstream v) v.units In up (λ k. net (v.unit k)) (λ k. net (w.unit k)) (λ k. pos 0) j h i
    (λ k g q. le_parts (net (v.unit k)) (net (w.unit k)) (m k (omega arith) q))))
