-- Laws of gathering. Assumes nothing.
use Prim.Native.Nat.{ℕ, zero, suc, ◌+◌, ◌*◌, ◌≤◌, ◌<◌}
use mathlib.Core.Logic.{◌⊎◌, ⊎_elim}
use mathlib.Core.Path.{◌≡◌, refl, ap, ap₂, ◌∙◌}
use mathlib.Core.Bool.{Bool, true, false, ◌||◌}
use lib.Dec.{eqb, ltb}
use native.Mathlib.Nat.{le_refl, not-suc-le-zero, suc-mul}
use native.Mathlib.Omega.{arith}
use borrow.Author.Tests.{eq-eqb, ne_eqb, lt-ltb, le-ltb}
use Rattle.laws.proofs.Cases.{by_eq, by_lt}
use Rattle.laws.specs.Sum.{Adding, naturals, sum_of, only}
use Rattle.laws.specs.Gather.{gather_to, gather, arriving}

module _ {A : Type 0} (P : Adding A) where
  -- Sums of amounts that agree below n agree.
  pub sum_same : (n : ℕ) (x y : ℕ → A) → ((k : ℕ) → k < n → x k ≡ y k) → sum_of P n x ≡ sum_of P n y
  unfolding sum_of
  sum_same zero x y e = refl
  sum_same (suc n) x y e = ap₂ P.plus (sum_same n x y (λ k h. e k (omega arith))) (e n (omega arith))

module _ {A : Type 0} (P : Adding A) (down : ℕ → ℕ) (own : ℕ → A) where
  -- A deeper allowance changes nothing.
  deeper : (f g j : ℕ) → j ≤ f → j ≤ g → gather_to P down own f j ≡ gather_to P down own g j
  unfolding gather_to sum_of
  deeper zero zero j a b = refl
  deeper zero (suc g) zero a b = refl
  deeper zero (suc g) (suc j) a b = absurd (not-suc-le-zero a)
  deeper (suc f) zero zero a b = refl
  deeper (suc f) zero (suc j) a b = absurd (not-suc-le-zero b)
  deeper (suc f) (suc g) j a b =
      ap (λ (s : A). P.plus s (own j))
      (sum_same P j _ _ (λ k h. ap (only P (eqb (down k) (suc j))) (deeper f g k (omega arith) (omega arith))))

  -- The sentence: what place j gathers is what the places that drain straight into it gather, and its own amount.
  pub gather_is : (j : ℕ) → gather P down own j ≡ P.plus (arriving P down (gather P down own) j j) (own j)
  unfolding gather gather_to sum_of
  gather_is zero = refl
  gather_is (suc j) =
      ap (λ (s : A). P.plus s (own (suc j)))
      (sum_same P (suc j) _ _ (λ k h. ap (only P (eqb (down k) (suc (suc j)))) (deeper j k k (omega arith) (omega arith))))

-- One law for every relation of three amounts that holds of nothing and is kept by adding: it holds of what is summed and gathered
-- where it holds of the amounts.
module _ {A B C : Type 0} (P : Adding A) (Q : Adding B) (S : Adding C) (R : A → B → C → Type 0)
    (at_none : R P.none Q.none S.none)
    (at-plus : (a a' : A) (b b' : B) (c c' : C) → R a b c → R a' b' c' → R (P.plus a a') (Q.plus b b') (S.plus c c'))
  where
    pub related_sum : (n : ℕ) (x : ℕ → A) (y : ℕ → B) (z : ℕ → C) → ((k : ℕ) → k < n → R (x k) (y k) (z k))
        → R (sum_of P n x) (sum_of Q n y) (sum_of S n z)
    unfolding sum_of
    related_sum zero x y z r = at_none
    related_sum (suc n) x y z r =
        at-plus _ _ _ _ _ _ (related_sum n x y z (λ k h. r k (omega arith))) (r n (omega arith))

    related_only : (t : Bool) (a : A) (b : B) (c : C) → R a b c → R (only P t a) (only Q t b) (only S t c)
    related_only true a b c r = r
    related_only false a b c r = at_none

    pub related_arriving : (down : ℕ → ℕ) (n j : ℕ) (x : ℕ → A) (y : ℕ → B) (z : ℕ → C)
        → ((k : ℕ) → k < n → R (x k) (y k) (z k)) → R (arriving P down x n j) (arriving Q down y n j) (arriving S down z n j)
    related_arriving down n j x y z r = related_sum n _ _ _ (λ k h. related_only (eqb (down k) (suc j)) _ _ _ (r k h))

    related_to : (down : ℕ → ℕ) (x : ℕ → A) (y : ℕ → B) (z : ℕ → C) (depth j : ℕ) → ((k : ℕ) → k ≤ j → R (x k) (y k) (z k))
        → R (gather_to P down x depth j) (gather_to Q down y depth j) (gather_to S down z depth j)
    unfolding gather_to
    related_to down x y z zero j r = at-plus _ _ _ _ _ _ at_none (r j (le_refl j))
    related_to down x y z (suc d) j r =
        at-plus _ _ _ _ _ _
        (related_sum j _ _ _
        (λ k h. related_only (eqb (down k) (suc j)) _ _ _ (related_to down x y z d k (λ i g. r i (omega arith)))))
        (r j (le_refl j))

    pub related_gather : (down : ℕ → ℕ) (x : ℕ → A) (y : ℕ → B) (z : ℕ → C) (j : ℕ) → ((k : ℕ) → k ≤ j → R (x k) (y k) (z k))
        → R (gather P down x j) (gather Q down y j) (gather S down z j)
    unfolding gather
    related_gather down x y z j r = related_to down x y z j j r

-- A tree of n places: each drains into a place after it, or is an outlet.
pub record Tree (down : ℕ → ℕ) (n : ℕ) : Type 0 where
  pub onward : (k : ℕ) → k < n → (down k ≡ 0) ⊎ (suc k < down k)

-- A place still has its amount on the way after the first n places: it is an outlet, or drains past them.
abbrev pub passes : (ℕ → ℕ) → ℕ → ℕ → Bool
passes down n k = eqb (down k) 0 || ltb n (down k)

-- Of the amounts on the way after n places, those that drain into place n stop there and the others go on.
pub split_only : (n d a : ℕ) → only naturals (eqb d 0 || ltb n d) a ≡ only naturals (eqb d (suc n)) a + only naturals (eqb d 0 || ltb (suc n) d) a
split_only n d a =
    by_eq d 0
    (λ e. rw (eq-eqb d 0 e, ne_eqb d (suc n) (omega arith)) (omega arith))
    (λ e. rw (ne_eqb d 0 e)
    (by_eq d (suc n)
    (λ g. rw (eq-eqb d (suc n) g, lt-ltb n d (omega arith), le-ltb (suc n) d (omega arith)) (omega arith))
    (λ g. rw (ne_eqb d (suc n) g)
    (by_lt n d
    (λ h. rw (lt-ltb n d h, lt-ltb (suc n) d (omega arith)) (omega arith))
    (λ h. rw (le-ltb n d h, le-ltb (suc n) d (omega arith)) (omega arith))))))

pub passing : (n d a : ℕ) → (d ≡ 0) ⊎ (suc n < d) → only naturals (eqb d 0 || ltb (suc n) d) a ≡ a
passing n d a t = ⊎_elim (λ e. rw (eq-eqb d 0 e)) (λ h. rw (ne_eqb d 0 (omega arith), lt-ltb (suc n) d h)) t

pub sum_plus : (n : ℕ) (x y : ℕ → ℕ) → sum_of naturals n (λ k. x k + y k) ≡ sum_of naturals n x + sum_of naturals n y
unfolding sum_of
sum_plus zero x y = refl
sum_plus (suc n) x y = omega (arith, sum_plus n x y)

module _ (down own : ℕ → ℕ) where
  -- What is on the way after the first n places is the sum of their own amounts.
  pub on_the_way : (n : ℕ) → Tree down n → sum_of naturals n (λ k. only naturals (passes down n k) (gather naturals down own k)) ≡ sum_of naturals n own
  unfolding sum_of
  on_the_way zero t = refl
  on_the_way (suc n) t =
      let G = gather naturals down own in
      let before = on_the_way n (record { onward = λ k h. t.onward k (omega arith) }) in
      let parted = sum_same naturals n _ _ (λ k h. split_only n (down k) (G k)) ∙ sum_plus n (λ k. only naturals (eqb (down k) (suc n)) (G k)) (λ k. only naturals (passes down (suc n) k) (G k)) in
      omega (arith, before, parted, gather_is naturals down own n, passing n (down n) (G n) (t.onward n (omega arith)))

pub sum_monotone : (n : ℕ) (x y : ℕ → ℕ) → ((k : ℕ) → k < n → x k ≤ y k) → sum_of naturals n x ≤ sum_of naturals n y
unfolding sum_of
sum_monotone zero x y h = le_refl 0
sum_monotone (suc n) x y h = omega (arith, sum_monotone n x y (λ k g. h k (omega arith)), h n (omega arith))

pub sum_bounded : (n b : ℕ) (x : ℕ → ℕ) → ((k : ℕ) → k < n → x k ≤ b) → sum_of naturals n x ≤ n * b
unfolding sum_of
sum_bounded zero b x h = omega arith
sum_bounded (suc n) b x h = omega (arith, sum_bounded n b x (λ k g. h k (omega arith)), h n (omega arith), suc-mul n b)

module _ (down own : ℕ → ℕ) where
  -- What arrives at a place comes from the places before it.
  pub arriving_within : (j : ℕ) → Tree down j → arriving naturals down (gather naturals down own) j j ≤ sum_of naturals j own
  arriving_within j t =
      let G = gather naturals down own in
      omega (
        arith,
        sum_monotone j (λ k. only naturals (eqb (down k) (suc j)) (G k)) (λ k. only naturals (passes down j k) (G k))
            (λ k h. omega (arith, split_only j (down k) (G k))),
        on_the_way down own j t,
      )

  pub gather_within : (j : ℕ) → Tree down j → gather naturals down own j ≤ sum_of naturals (suc j) own
  unfolding sum_of
  gather_within j t = omega (arith, arriving_within j t, gather_is naturals down own j)

-- A sum over fewer places is no larger.
pub sum_prefix : (m n : ℕ) (x : ℕ → ℕ) → m ≤ n → sum_of naturals m x ≤ sum_of naturals n x
unfolding sum_of
sum_prefix m zero x h = let e : m ≡ 0 = omega arith in rw e (le_refl 0)
sum_prefix m (suc n) x h =
    by_lt m (suc n)
    (λ g. omega (arith, sum_prefix m n x (omega arith)))
    (λ g. let e : m ≡ suc n = omega arith in rw e (le_refl _))

-- Nothing arrives at a place from the places after it.
pub arriving_stays : (down x : ℕ → ℕ) (n i j : ℕ) → Tree down n → j ≤ i → i ≤ n
    → arriving naturals down x i j ≡ arriving naturals down x j j
unfolding sum_of
arriving_stays down x n zero j t h g = let e : j ≡ 0 = omega arith in rw e
arriving_stays down x n (suc i) j t h g =
    by_lt i j
    (λ q. let e : j ≡ suc i = omega arith in rw e)
    (λ q. rw (ne_eqb (down i) (suc j) (⊎_elim (λ e. λ k. omega arith) (λ e. λ k. omega arith) (t.onward i (omega arith))))
    (omega (arith, arriving_stays down x n i j t q (omega arith))))
