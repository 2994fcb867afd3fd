-- Laws of a test over the places below a number: the first at which it holds. Assumes nothing.
use Rattle.std.specs.Prelude.{Option, Some, None, is_some}
use Prim.Native.Nat.{ℕ, zero, suc, ◌+◌, ◌≤◌, ◌<◌}
use mathlib.Core.Path.{◌≡◌, refl, sym, ap, ◌∙◌}
use mathlib.Core.Bool.{Bool, true, false, not}
use native.Mathlib.Omega.{arith}
use borrow.Author.Tests.{not-false}
use Rattle.laws.specs.Sum.{every}
use Rattle.laws.proofs.Cases.{by_bool, by_eq}
use Rattle.laws.proofs.Every.{every_each, each_every}
use Rattle.model.specs.Answers.{first_from, first}

-- A test that fails at every place before i and holds at i.
pub record FirstAt (t : ℕ → Bool) (from i : ℕ) : Type 0 where
  pub passed : (k : ℕ) → from ≤ k → k < i → t k ≡ false
  pub hit : t i ≡ true

module _ (t : ℕ → Bool) where
  from_at : (n s i : ℕ) → s ≤ i → i < n + s → FirstAt t s i → first_from n s t ≡ Some i
  unfolding first_from
  from_at zero s i l h f = absurd (omega arith)
  from_at (suc n) s i l h f =
      by_eq s i
      (λ e. rw (ap t e ∙ f.hit, first_from) (ap Some e))
      (λ e. rw (f.passed s (omega arith) (omega arith), first_from)
      (from_at n (suc s) i (omega arith) (omega arith) (record { passed = λ k a b. f.passed k (omega arith) b; hit = f.hit })))

  from_none : (n s : ℕ) → ((k : ℕ) → s ≤ k → k < n + s → t k ≡ false) → first_from n s t ≡ None
  unfolding first_from
  from_none zero s f = refl
  from_none (suc n) s f = rw (f s (omega arith) (omega arith), first_from) (from_none n (suc s) (λ k a b. f k (omega arith) (omega arith)))

  from_passed : (n s : ℕ) → first_from n s t ≡ None → (k : ℕ) → s ≤ k → k < n + s → t k ≡ false
  unfolding first_from
  from_passed zero s e k a b = absurd (omega arith)
  from_passed (suc n) s e k a b =
      by_bool (t s)
      (λ q. let z : Some s ≡ None = rw (q, first_from) at e in let w : ◌≡◌ {A = ℕ} 0 1 = cc in absurd (omega arith))
      (λ q. by_eq k s (λ g. ap t g ∙ q) (λ g. from_passed n (suc s) (rw (q, first_from) at e) k (omega arith) (omega arith)))

  from_found : (n s i : ℕ) → first_from n s t ≡ Some i → (s ≤ i) × (i < n + s) × FirstAt t s i
  unfolding first_from
  from_found zero s i e = let w : ◌≡◌ {A = ℕ} 0 1 = cc in absurd (omega arith)
  from_found (suc n) s i e =
      by_bool (t s)
      (λ q.
      let z : Some s ≡ Some i = rw (q, first_from) at e in
      let g : s ≡ i = cc in
      (omega arith, omega arith, record { passed = λ k a b. absurd (omega arith); hit = ap t (sym g) ∙ q }))
      (λ q.
      let f = from_found n (suc s) i (rw (q, first_from) at e) in (
        omega arith,
        omega arith,
        record {
          passed = λ k a b. by_eq k s (λ g. ap t g ∙ q) (λ g. f.2.passed k (omega arith) b);
          hit = f.2.hit;
        },
      ))

  -- The first place at which the test holds is the one before which it fails everywhere.
  pub first_at : (n i : ℕ) → i < n → ((k : ℕ) → k < i → t k ≡ false) → t i ≡ true → first n t ≡ Some i
  first_at n i h f e = from_at n 0 i (omega arith) (omega arith) (record { passed = λ k a b. f k b; hit = e })

  pub at_first : (n i : ℕ) → first n t ≡ Some i → (i < n) × ((k : ℕ) → k < i → t k ≡ false) × (t i ≡ true)
  at_first n i e =
      let f = from_found n 0 i e in
      (omega arith, λ k h. f.2.passed k (omega arith) h, f.2.hit)

  -- There is none exactly where the test fails everywhere.
  pub first_nothing : (n : ℕ) → ((k : ℕ) → k < n → t k ≡ false) → first n t ≡ None
  first_nothing n f = from_none n 0 (λ k a b. f k (omega arith))

  pub nothing_passed : (n : ℕ) → first n t ≡ None → (k : ℕ) → k < n → t k ≡ false
  nothing_passed n e k h = from_passed n 0 e k (omega arith) (omega arith)

module _ (t : ℕ → Bool) where
  -- There is no first place at which it fails exactly where it holds at every place.
  pub nothing_every : (n : ℕ) → first n (λ k. not (t k)) ≡ None → every n t ≡ true
  nothing_every n e = each_every t n (λ k h. not-false (t k) (nothing_passed (λ k. not (t k)) n e k h))

  pub every_nothing : (n : ℕ) → every n t ≡ true → first n (λ k. not (t k)) ≡ None
  every_nothing n e = first_nothing (λ k. not (t k)) n (λ k h. ap not (every_each t n e k h))

  pub at_fails : (n i : ℕ) → first n (λ k. not (t k)) ≡ Some i → every n t ≡ false
  at_fails n i e =
      by_bool (every n t)
      (λ q. let z = every_nothing n q in let w : ◌≡◌ {A = ℕ} 0 1 = cc in absurd (omega arith))
      (λ q. q)

-- There is such a place exactly where the test fails somewhere.
pub some_fails : (t : ℕ → Bool) (n : ℕ) → is_some (first n (λ k. not (t k))) ≡ not (every n t)
some_fails t n = by_found (first n (λ k. not (t k))) refl
  where
    by_found : (f : Option ℕ) → first n (λ k. not (t k)) ≡ f → is_some f ≡ not (every n t)
    by_found None e = sym (ap not (nothing_every t n e))
    by_found (Some j) e = sym (ap not (at_fails t n j e))

-- The first place of tests that agree is the same.
first_from_same : (n s : ℕ) (t r : ℕ → Bool) → ((k : ℕ) → s ≤ k → k < n + s → t k ≡ r k) → first_from n s t ≡ first_from n s r
unfolding first_from
first_from_same zero s t r e = refl
first_from_same (suc n) s t r e =
    let q = e s (omega arith) (omega arith) in
    let on = first_from_same n (suc s) t r (λ k a b. e k (omega arith) (omega arith)) in
    by_bool (r s)
    (λ g. rw (q ∙ g, g, first_from))
    (λ g. rw (q ∙ g, g, first_from) on)

pub first_same : (n : ℕ) (t r : ℕ → Bool) → ((k : ℕ) → k < n → t k ≡ r k) → first n t ≡ first n r
first_same n t r e = first_from_same n 0 t r (λ k a b. e k (omega arith))
