-- A gauged year as its gains less its losses, and its bounds. Assumes nothing.
use Prim.Native.Nat.{ℕ, ◌+◌}
use lib.IntN.{ℤ}
use native.Mathlib.Omega.{arith}
use Rattle.laws.specs.Signed.{above, below}
use Rattle.runoff.specs.Year.{gauged_year}
use Rattle.laws.proofs.Parts.{Less, less_pos, less_self, less_plus, less_minus}

module _ (outflow inflow extraction exports imports returns evaporation : ℕ) (storage : ℤ) where
  pub gauged_parts :
      Less (gauged_year outflow inflow extraction exports imports returns evaporation storage)
      (outflow + extraction + exports + evaporation + above storage)
      (inflow + imports + returns + below storage)
  gauged_parts =
      let long =
      less_plus (less_plus (less_minus (less_minus (less_plus (less_plus (less_minus (less_pos outflow) (less_pos inflow))
      (less_pos extraction)) (less_pos exports)) (less_pos imports)) (less_pos returns)) (less_pos evaporation)) (less_self storage)
      in
      record { parts = omega (arith, long) }
