-- How a return of a chain of tests meets the chain of the definition, and the tests of such a chain. Assumes nothing.
use Prim.Native.Nat.{ℕ, ◌≤◌, ◌<◌}
use mathlib.Core.Path.{◌≡◌}
use mathlib.Core.Bool.{Bool, true, false, cond, ◌&&◌}
use lib.Dec.{eqb, ltb, leb}
use borrow.Author.Tests.{lt-ltb, le-ltb, le-leb, lt-leb, eq-eqb, ne_eqb}

-- The answer of a test that holds.
module _ {A : Type 0} where
  pub hit : (t : Bool) (x y r : A) → t ≡ true → r ≡ x → r ≡ cond t x y
  hit t x y r e q = rw e q

-- Tests from facts.
pub t_lt : (a b : ℕ) → a < b → ltb a b ≡ true
t_lt = lt-ltb

pub f_lt : (a b : ℕ) → b ≤ a → ltb a b ≡ false
f_lt = le-ltb

pub t_le : (a b : ℕ) → a ≤ b → leb a b ≡ true
t_le = le-leb

pub f_le : (a b : ℕ) → b < a → leb a b ≡ false
f_le = lt-leb

pub t_eq : (a b : ℕ) → a ≡ b → eqb a b ≡ true
t_eq = eq-eqb

pub f_eq : (a b : ℕ) → (a ≡ b → ⊥) → eqb a b ≡ false
f_eq = ne_eqb

-- A conjunction of tests.
pub t_and : (t u : Bool) → t ≡ true → u ≡ true → t && u ≡ true
t_and t u e q = rw e q

pub f_and : (t u : Bool) → t ≡ false → t && u ≡ false
f_and t u e = rw e

pub f_and_on : (t u : Bool) → t ≡ true → u ≡ false → t && u ≡ false
f_and_on t u e q = rw e q
