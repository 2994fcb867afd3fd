-- Sums over a unit's records, one record more at the end. Assumes nothing.
use Prim.Native.Nat.{ℕ, ◌+◌, ◌*◌, ◌≤◌, ◌<◌}
use mathlib.Core.Path.{◌≡◌, refl, sym, ap, ◌∙◌}
use mathlib.Core.Bool.{true}
use mathlib.Core.List.{List, [], ◌∷◌, ◌++◌, map}
use lib.ListN.{length}
use lib.IntN.{ℤ, pos, ◌+ℤ◌, +ℤ_assoc, +ℤ_idl, +ℤ_idr}
use Rattle.std.proofs.lemmas.List.{length-map}
use native.Mathlib.Nat.{mul-le-mul_left}
use native.Mathlib.Omega.{arith}
use borrow.Author.Tests.{ne_eqb}
use Rattle.runoff.specs.Soil.{weighted, Known}
use Rattle.runoff.specs.Mean.{natural_runoff}
use Rattle.runoff.specs.declared.Plot.{Plot}
use Rattle.runoff.specs.declared.Rain.{Rain}
use Rattle.runoff.specs.declared.Gauged.{Gauged}
use Rattle.runoff.specs.Record.{area_of, weighted_of, rain_of, rain_sum, rain_runoff, gauged_of, gauged_sum, gauged_runoff, Year, of_rain, of_gauge, year_gives, years_sum, runoff_of}
use Rattle.runoff.proofs.Table.{coefficient_within}

-- Hectares times K is at most 33 times the hectares.
pub weighted_within : (cover soil hectares : ℕ) → Known cover soil → weighted cover soil hectares ≤ 33 * hectares
weighted_within cover soil hectares k =
    omega (arith, mul-le-mul_left hectares (coefficient_within cover soil k).1)

-- Hectares and the weighted sum of records behind others, and of one behind others.
pub area_of_append : (ps qs : List Plot) → area_of (ps ++ qs) ≡ area_of ps + area_of qs
unfolding area_of
area_of_append [] qs = omega arith
area_of_append (p ∷ ps) qs = omega (arith, area_of_append ps qs)

pub weighted_of_append : (ps qs : List Plot) → weighted_of (ps ++ qs) ≡ weighted_of ps + weighted_of qs
unfolding weighted_of
weighted_of_append [] qs = omega arith
weighted_of_append (p ∷ ps) qs = omega (arith, weighted_of_append ps qs)

pub area_of_more : (ps : List Plot) (p : Plot) → area_of (ps ++ (p ∷ [])) ≡ area_of ps + p.hectares
unfolding area_of
area_of_more ps p = omega (arith, area_of_append ps (p ∷ []))

pub weighted_of_more : (ps : List Plot) (p : Plot)
    → weighted_of (ps ++ (p ∷ [])) ≡ weighted_of ps + weighted p.cover p.soil p.hectares
unfolding weighted_of
weighted_of_more ps p = omega (arith, weighted_of_append ps (p ∷ []))

pub years_sum_more : (A S : ℕ) (years : List Year) (y : Year) → years_sum A S (years ++ (y ∷ [])) ≡ years_sum A S years +ℤ year_gives A S y
unfolding years_sum
years_sum_more A S [] y = +ℤ_idr (year_gives A S y) ∙ sym (+ℤ_idl (year_gives A S y))
years_sum_more A S (x ∷ years) y =
    ap (λ (z : ℤ). year_gives A S x +ℤ z) (years_sum_more A S years y) ∙ sym (+ℤ_assoc (year_gives A S x) (years_sum A S years) (year_gives A S y))

-- The sum of years of rain alone, and of gauged years alone.
rains_sum : (A S : ℕ) (rains : List Rain) → years_sum A S (map of_rain rains) ≡ pos (rain_sum A S rains)
unfolding years_sum rain_sum
rains_sum A S [] = refl
rains_sum A S (r ∷ rains) = ap (λ (z : ℤ). pos (rain_of A S r) +ℤ z) (rains_sum A S rains)

gauges_sum : (A S : ℕ) (gauges : List Gauged) → years_sum A S (map of_gauge gauges) ≡ gauged_sum gauges
unfolding years_sum gauged_sum
gauges_sum A S [] = refl
gauges_sum A S (y ∷ gauges) = ap (λ (z : ℤ). gauged_of y +ℤ z) (gauges_sum A S gauges)

-- The natural runoff of a unit with soil records and rain years is the mean of these years on these soils.
pub rain_mean : (plots : List Plot) (rains : List Rain) → 0 < length plots → runoff_of plots (map of_rain rains) ≡ rain_runoff plots rains
unfolding rain_runoff
rain_mean plots rains h = λ i.
    natural_runoff (ne_eqb (length plots) 0 (omega arith) i) (length-map rains of_rain i) (rains_sum (area_of plots) (weighted_of plots) rains i)

-- The natural runoff of a unit with gauged years and no soil records is the mean of these years.
pub gauged_mean : (gauges : List Gauged) → runoff_of [] (map of_gauge gauges) ≡ gauged_runoff gauges
unfolding gauged_runoff
gauged_mean gauges = λ i. natural_runoff true (length-map gauges of_gauge i) (gauges_sum (area_of []) (weighted_of []) gauges i)
