-- A year of 10 × P tenths is 100 times the year of P mm, and the mean of such years is the same. Assumes nothing.
use Prim.Native.Nat.{ℕ, ◌+◌, ◌-◌, ◌*◌, ◌/◌}
use mathlib.Core.Path.{◌≡◌, ap, ◌∙◌}
use native.Mathlib.Nat.{mul_assoc, mul-mul-mul_comm, mul-div-mul_left}
use native.Mathlib.Omega.{arith}
use borrow.Author.Tests.{lt-ltb, le-ltb}
use Rattle.laws.proofs.Cases.{by_lt}
use Rattle.runoff.specs.Year.{rain_year}
use Rattle.runoff.specs.Mean.{rounded}
use Rattle.millimetres.specs.Rule.{mm_year}

-- The two terms.
first_term : (S P : ℕ) → 10 * P * 3 * S * (10 * P - 2500) ≡ 100 * (P * 3 * S * (P - 250))
first_term S P =
    let q : 10 * P - 2500 ≡ 10 * (P - 250) = omega arith in
    let x : 10 * P * 3 * S ≡ 10 * (P * 3 * S) = ap (λ (k : ℕ). k * S) (mul_assoc 10 P 3) ∙ mul_assoc 10 (P * 3) S in
    (λ i. x i * q i) ∙ mul-mul-mul_comm 10 (P * 3 * S) 10 (P - 250)

second_term : (P over : ℕ) → 10 * P * 40000 * over ≡ 100 * (P * 4000 * over)
second_term P over =
    let x : 10 * P * 40000 ≡ 100 * (P * 4000) = omega arith in
    ap (λ (k : ℕ). k * over) x ∙ mul_assoc 100 (P * 4000) over

-- The year at 10 × P tenths is 100 times the year of P mm.
pub tenfold_year : (A S P : ℕ) → rain_year A S (10 * P) ≡ 100 * mm_year A S P
unfolding rain_year mm_year
tenfold_year A S P =
    by_lt (15 * A) S
    (λ h. rw (lt-ltb (15 * A) S h) (omega (arith, first_term S P, second_term P (S - 15 * A))))
    (λ h. rw (le-ltb (15 * A) S h) (omega (arith, first_term S P)))

-- A hundred times as much over a hundred times as much rounds to the same.
pub rounded_scaled : (num den : ℕ) → rounded (100 * num) (100 * den) ≡ rounded num den
unfolding rounded
rounded_scaled num den =
    let x : 2 * (100 * num) + 100 * den ≡ 100 * (2 * num + den) = omega arith in
    let y : 2 * (100 * den) ≡ 100 * (2 * den) = omega arith in
    (λ i. x i / y i) ∙ mul-div-mul_left {m = 100} (2 * num + den) (2 * den) (omega arith)
