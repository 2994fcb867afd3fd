-- The bounds of K, by one test over the whole table. Assumes nothing.
use Prim.Native.Nat.{ℕ, ◌-◌, ◌≤◌}
use mathlib.Core.Path.{◌≡◌, refl}
use mathlib.Core.Bool.{Bool, true, ◌&&◌}
use mathlib.Core.List.{[]}
use lib.Dec.{leb}
use lib.ListN.{get_or}
use native.Mathlib.Omega.{arith}
use borrow.Author.Tests.{leb-true}
use Rattle.laws.specs.Sum.{every}
use Rattle.laws.proofs.Every.{both, every_each}
use Rattle.runoff.specs.Soil.{coefficients, coefficient, Known}

-- An entry, counted from 0, lies between 7 and 33.
inside : ℕ → ℕ → Bool
inside c s = leb 7 (get_or (get_or coefficients c []) s 0) && leb (get_or (get_or coefficients c []) s 0) 33

whole_table : every 14 (λ c. every 3 (λ s. inside c s)) ≡ true
unfolding every inside coefficients
whole_table = refl

-- K lies between 7 and 33.
pub coefficient_within : (cover soil : ℕ) → Known cover soil → (7 ≤ coefficient cover soil) × (coefficient cover soil ≤ 33)
unfolding coefficient inside
coefficient_within cover soil k =
    let row = every_each (λ c. every 3 (λ s. inside c s)) 14 whole_table (cover - 1) (omega arith) in
    let entry = both _ _ (every_each (λ s. inside (cover - 1) s) 3 row (soil - 1) (omega arith)) in
    (leb-true _ _ entry.0, leb-true _ _ entry.1)
