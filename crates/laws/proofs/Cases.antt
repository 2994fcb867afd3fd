-- Case distinctions as continuations, for use in the middle of a proof. Assumes nothing.
use Prim.Native.Nat.{ℕ, ◌≤◌, ◌<◌}
use mathlib.Core.Path.{◌≡◌, refl}
use mathlib.Core.Bool.{Bool, true, false}
use lib.Dec.{eqb, ltb}
use borrow.Author.Tests.{ltb-true, ltb-false, eqb-true, eqb-false}

module _ {X : Type 0} where
  pub by_bool : (t : Bool) → (t ≡ true → X) → (t ≡ false → X) → X
  by_bool true p q = p refl
  by_bool false p q = q refl

  pub by_lt : (a b : ℕ) → (a < b → X) → (b ≤ a → X) → X
  by_lt a b p q = by_bool (ltb a b) (λ e. p (ltb-true a b e)) (λ e. q (ltb-false a b e))

  pub by_eq : (a b : ℕ) → (a ≡ b → X) → ((a ≡ b → ⊥) → X) → X
  by_eq a b p q = by_bool (eqb a b) (λ e. p (eqb-true a b e)) (λ e. q (eqb-false a b e))
