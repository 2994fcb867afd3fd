-- Tests that hold together, and tests that hold at every place below a number. Assumes nothing.
use Prim.Native.Nat.{ℕ, zero, suc, ◌<◌}
use mathlib.Core.Path.{◌≡◌, refl, sym, ap, ◌∙◌}
use mathlib.Core.Bool.{Bool, true, false, ◌&&◌, true≢false}
use native.Mathlib.Omega.{arith}
-- Both tests of a conjunction hold, and neither of a disjunction that fails.
pub use Rattle.std.proofs.lemmas.Bool.{and_parts as both, or_parts as neither}
use Rattle.laws.specs.Sum.{every}
use Rattle.laws.proofs.Cases.{by_bool, by_eq}

module _ (t : ℕ → Bool) where
  -- The test holds at every place exactly where it holds at each.
  pub every_each : (n : ℕ) → every n t ≡ true → (k : ℕ) → k < n → t k ≡ true
  unfolding every
  every_each zero e k h = absurd (omega arith)
  every_each (suc n) e k h =
      by_eq k n
      (λ g. ap t g ∙ (both (every n t) (t n) e).1)
      (λ g. every_each n (both (every n t) (t n) e).0 k (omega arith))

  pub each_every : (n : ℕ) → ((k : ℕ) → k < n → t k ≡ true) → every n t ≡ true
  unfolding every
  each_every zero f = refl
  each_every (suc n) f = rw (each_every n (λ k h. f k (omega arith))) (f n (omega arith))

  -- One place at which it fails is enough.
  pub every_fails : (n k : ℕ) → k < n → t k ≡ false → every n t ≡ false
  every_fails n k h e = by_bool (every n t) (λ q. absurd (true≢false (sym (every_each n q k h) ∙ e))) (λ q. q)

-- Two tests that are the same at each place.
pub every_same : (n : ℕ) (p q : ℕ → Bool) → ((k : ℕ) → k < n → p k ≡ q k) → every n p ≡ every n q
unfolding every
every_same zero p q e = refl
every_same (suc n) p q e = λ i. every_same n p q (λ k h. e k (omega arith)) i && e n (omega arith) i
