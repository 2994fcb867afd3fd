-- Sums of sums, and sums of which one term alone counts. Assumes nothing.
use Prim.Native.Nat.{ℕ, zero, suc, ◌+◌, ◌<◌}
use mathlib.Core.Path.{◌≡◌, refl, sym, ap, ◌∙◌}
use mathlib.Core.Bool.{Bool, true, false}
use native.Mathlib.Omega.{arith}
use Rattle.laws.specs.Sum.{naturals, sum_of, only}
use Rattle.laws.proofs.Cases.{by_eq}
use Rattle.laws.proofs.Gathering.{sum_plus}

-- Terms that are all 0 add up to 0.
pub sum_zero : (n : ℕ) (x : ℕ → ℕ) → ((k : ℕ) → k < n → x k ≡ 0) → sum_of naturals n x ≡ 0
unfolding sum_of
sum_zero zero x e = refl
sum_zero (suc n) x e = omega (arith, sum_zero n x (λ k h. e k (omega arith)), e n (omega arith))

-- A sum is its one term where all the others are 0.
pub sum_single : (n i : ℕ) (x : ℕ → ℕ) → i < n → ((k : ℕ) → k < n → (k ≡ i → ⊥) → x k ≡ 0) → sum_of naturals n x ≡ x i
unfolding sum_of
sum_single zero i x h e = absurd (omega arith)
sum_single (suc n) i x h e =
    by_eq n i
    (λ q. omega (arith, sum_zero n x (λ k g. e k (omega arith) (λ z. omega arith)), ap x q))
    (λ q. omega (arith, sum_single n i x (omega arith) (λ k g. e k (omega arith)), e n (omega arith) q))

-- The order of two sums is exchanged.
pub sum_swap : (m n : ℕ) (x : ℕ → ℕ → ℕ)
    → sum_of naturals m (λ i. sum_of naturals n (λ k. x i k)) ≡ sum_of naturals n (λ k. sum_of naturals m (λ i. x i k))
unfolding sum_of
sum_swap zero n x = sym (sum_zero n (λ k. 0) (λ k h. refl))
sum_swap (suc m) n x =
    ap (λ (s : ℕ). s + sum_of naturals n (x m)) (sum_swap m n x)
    ∙ sym (sum_plus n (λ k. sum_of naturals m (λ i. x i k)) (x m))

-- The amount where the test holds, and nothing where it does not.
pub only_is : (t : Bool) (a : ℕ) → t ≡ true → only naturals t a ≡ a
only_is t a e = rw e

pub only_not : (t : Bool) (a : ℕ) → t ≡ false → only naturals t a ≡ 0
only_not t a e = rw e

-- Nothing is nothing, whatever the test.
pub only_zero : (t : Bool) → only naturals t 0 ≡ 0
only_zero true = refl
only_zero false = refl

-- The sum of two amounts under one test, and amounts that are equal where the test holds.
pub only_plus : (t : Bool) (a b : ℕ) → only naturals t (a + b) ≡ only naturals t a + only naturals t b
only_plus true a b = refl
only_plus false a b = refl

pub only_same : (t : Bool) (a b : ℕ) → (t ≡ true → a ≡ b) → only naturals t a ≡ only naturals t b
only_same true a b e = e refl
only_same false a b e = refl

-- A test that is the same for all terms is made once.
pub sum_only : (t : Bool) (n : ℕ) (x : ℕ → ℕ) → sum_of naturals n (λ k. only naturals t (x k)) ≡ only naturals t (sum_of naturals n x)
sum_only true n x = refl
sum_only false n x = sum_zero n (λ k. 0) (λ k h. refl)
