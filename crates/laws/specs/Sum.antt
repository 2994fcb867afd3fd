-- Sums and tests over the places below a number. Assumes nothing.
use Rattle.std.specs.Prelude.{ℕ, zero, suc, ◌+◌, Bool, true, false, ◌&&◌, ℤ, pos, ◌+ℤ◌}

-- A way of adding: what nothing amounts to, and two amounts together.
pub record Adding (A : Type 0) : Type 0 where
  pub none : A
  pub plus : A → A → A

abbrev pub naturals : Adding ℕ
naturals = record { none = 0; plus = λ a b. a + b }

abbrev pub integers : Adding ℤ
integers = record { none = pos 0; plus = λ a b. a +ℤ b }

-- The sum of x over the places below n.
unfoldable pub sum_of : {A : Type 0} → Adding A → ℕ → (ℕ → A) → A
sum_of P zero x = P.none
sum_of P (suc n) x = P.plus (sum_of P n x) (x n)

-- The amount where the test holds, and nothing where it does not.
abbrev pub only : {A : Type 0} → Adding A → Bool → A → A
only P true a = a
only P false a = P.none

-- The test holds at every place below n.
unfoldable pub every : ℕ → (ℕ → Bool) → Bool
every zero t = true
every (suc n) t = every n t && t n
