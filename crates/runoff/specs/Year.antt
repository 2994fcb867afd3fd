-- What one year yields. Assumes nothing.
use Rattle.std.specs.Prelude.{ℕ, ◌+◌, ◌-◌, ◌*◌, ◌≤◌, ◌<◌, ◌^◌, cond, ltb, ℤ, pos, ◌+ℤ◌, ◌-ℤ◌}
use Rattle.laws.specs.Signed.{above, below}
use Rattle.runoff.specs.declared.Measure.{Measure}
use Rattle.runoff.specs.declared.Measure.TheVariants.{Millimetres, Tenths}

-- The parts of a thousand m³ in which a rain year is whole.
abbrev pub rain_parts : ℕ
rain_parts = 6000000000

-- The rule is in tenths of a millimetre: PR, in millimetres, counts as ten times its number, PD as its number.
abbrev pub in_tenths : Measure → ℕ → ℕ
in_tenths Millimetres mm = 10 * mm
in_tenths Tenths p = p

-- A rain year of p tenths gives p × 3 × S × (p − 2500), and where S exceeds 15 × A also p × 40,000 × (S − 15 × A), in
-- 6,000,000,000ths of a thousand m³.
unfoldable pub rain_year : ℕ → ℕ → ℕ → ℕ
rain_year A S p = p * 3 * S * (p - 2500) + cond (ltb (15 * A) S) (p * 40000 * (S - 15 * A)) 0

-- What a rain year is worked from: at most 300,000 hectares, K at most 33 for each of them, at most 21,500 tenths.
pub record RainRange (A S p : ℕ) : Type 0 where
  pub area_to : A ≤ 300000
  pub weighted_to : S ≤ 33 * A
  pub rain_to : p ≤ 21500

-- A gauged year gives outflow − inflow + extraction + exports − imports − returns + evaporation + storage change.
abbrev pub gauged_year : ℕ → ℕ → ℕ → ℕ → ℕ → ℕ → ℕ → ℤ → ℤ
gauged_year outflow inflow extraction exports imports returns evaporation storage =
    pos outflow -ℤ pos inflow +ℤ pos extraction +ℤ pos exports -ℤ pos imports -ℤ pos returns +ℤ pos evaporation +ℤ storage

-- A storage change that 32 bits hold.
pub record StorageRange (storage : ℤ) : Type 0 where
  pub above_to : above storage < 2 ^ 31
  pub below_to : below storage ≤ 2 ^ 31
