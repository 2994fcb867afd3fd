-- Places of which one is put anew, and sums over them. Assumes nothing.
use Prim.Native.Nat.{ℕ, zero, suc, ◌+◌, ◌<◌}
use mathlib.Core.Path.{◌≡◌, refl, sym, ap}
use mathlib.Core.Bool.{Bool, true, false, cond}
use mathlib.Core.List.{List}
use lib.Dec.{eqb}
use lib.ListN.{length, get_or, set}
use lib.Seq.{get_or-set_same, get_or-set_other}
use native.Mathlib.Omega.{arith}
use borrow.Author.Tests.{eq-eqb, ne_eqb}
use Rattle.laws.specs.Sum.{naturals, sum_of}
use Rattle.laws.specs.Table.{put_at}
use Rattle.laws.proofs.Cases.{by_eq}
use Rattle.laws.proofs.Gathering.{sum_same}

module _ {A : Type 0} where
  -- The place that is put, and the others.
  pub put_here : (g : ℕ → A) (n : ℕ) (x : A) → put_at g n x n ≡ x
  put_here g n x = rw (eq-eqb n n refl)

  pub put_other : (g : ℕ → A) (n : ℕ) (x : A) (k : ℕ) → (k ≡ n → ⊥) → put_at g n x k ≡ g k
  put_other g n x k e = rw (ne_eqb k n e)

  -- What is read off the places is read off the one that is put.
  pub put_read : {B : Type 0} (f : A → B) (g : ℕ → A) (n : ℕ) (x : A) (k : ℕ) → put_at (λ j. f (g j)) n (f x) k ≡ f (put_at g n x k)
  put_read f g n x k = by_test (eqb k n)
    where
      by_test : (t : Bool) → cond t (f x) (f (g k)) ≡ f (cond t x (g k))
      by_test true = refl
      by_test false = refl

  -- What holds of every place and of what is put holds of every place after.
  pub put_holds : (P : A → Type 0) (g : ℕ → A) (n : ℕ) (x : A) → P x → ((k : ℕ) → P (g k)) → (k : ℕ) → P (put_at g n x k)
  put_holds P g n x p h k = by_test (eqb k n)
    where
      by_test : (t : Bool) → P (cond t x (g k))
      by_test true = p
      by_test false = h k

  -- A list with one element set, by its places.
  pub get_or_put : (l : List A) (d x : A) (n : ℕ) → n < length l → (k : ℕ) → get_or (set l n x) k d ≡ put_at (λ j. get_or l j d) n x k
  get_or_put l d x n h k =
      by_eq k n
      (λ e. rw (eq-eqb k n e, e) (get_or-set_same l n x d h))
      (λ e. rw (ne_eqb k n e) (get_or-set_other l n k x d e))

-- One term of a sum is changed.
sum_changed : (n i : ℕ) (x y : ℕ → ℕ) → i < n → ((k : ℕ) → k < n → (k ≡ i → ⊥) → x k ≡ y k)
    → sum_of naturals n y + x i ≡ sum_of naturals n x + y i
unfolding sum_of
sum_changed zero i x y h e = absurd (omega arith)
sum_changed (suc n) i x y h e =
    by_eq n i
    (λ q. omega (arith, sum_same naturals n x y (λ k g. e k (omega arith) (λ z. omega arith)), ap x q, ap y q))
    (λ q. omega (arith, sum_changed n i x y (omega arith) (λ k g. e k (omega arith)), e n (omega arith) q))

-- What places amount to together, where place k amounts to f of it.
module _ {A : Type 0} (f : A → ℕ) (g : ℕ → A) where
  -- One place more is put after the last.
  pub sum_put_next : (n : ℕ) (x : A) → sum_of naturals (suc n) (λ k. f (put_at g n x k)) ≡ sum_of naturals n (λ k. f (g k)) + f x
  unfolding sum_of
  sum_put_next n x = λ i. sum_same naturals n _ _ (λ k h. ap f (put_other g n x k (omega arith))) i + f (put_here g n x i)

  -- One of the places is put anew.
  pub sum_put : (n i : ℕ) (x : A) → i < n → sum_of naturals n (λ k. f (put_at g i x k)) + f (g i) ≡ sum_of naturals n (λ k. f (g k)) + f x
  sum_put n i x h =
      omega (
        arith,
        sum_changed n i (λ k. f (g k)) (λ k. f (put_at g i x k)) h (λ k l e. ap f (sym (put_other g i x k e))),
        ap f (put_here g i x),
      )
