-- A unit whose rain is all in millimetres has the same natural runoff by both rules. Assumes nothing.
use Prim.Native.Nat.{ℕ, ◌+◌, ◌*◌}
use mathlib.Core.Path.{◌≡◌, refl, sym, ap, ◌∙◌}
use mathlib.Core.Logic.{inl, inr}
use mathlib.Core.Bool.{true, false, cond}
use mathlib.Core.List.{List, [], ◌∷◌, ◌++◌, map}
use lib.Dec.{eqb}
use lib.ListN.{length}
use lib.IntN.{ℤ, pos, ◌+ℤ◌}
use native.Mathlib.Omega.{arith}
use borrow.Author.Tests.{eq-eqb, ne_eqb}
use Rattle.laws.specs.Signed.{above}
use Rattle.runoff.specs.declared.Measure.{Measure}
use Rattle.runoff.specs.declared.Measure.TheVariants.{Millimetres}
use Rattle.runoff.specs.Year.{in_tenths, rain_year}
use Rattle.runoff.specs.Mean.{rounded, divisor}
use Rattle.runoff.specs.declared.Rain.{Rain}
use Rattle.runoff.specs.declared.Gauged.{Gauged}
use Rattle.runoff.specs.Record.{Year, of_rain, of_gauge, area_of, weighted_of, gauged_of, years_sum, sum_on, runoff_of}
use Rattle.record.specs.Described.{DescribedUnit, RainUnit, GaugedUnit}
use Rattle.record.proofs.Means.{Kind}
use Rattle.millimetres.specs.Rule.{mm_year, mm_years_sum, mm_sum_on, mm_runoff}
use Rattle.millimetres.proofs.Scaling.{tenfold_year, rounded_scaled}

-- The rain years among these are in millimetres.
abbrev pub InMm : List Year → Type 0
InMm [] = Unit {0}
InMm (of_rain r ∷ years) = (r.measure ≡ Millimetres) × InMm years
InMm (of_gauge y ∷ years) = InMm years

pub in_mm_more : (years : List Year) (y : Year) → InMm years → InMm (y ∷ []) → InMm (years ++ (y ∷ []))
in_mm_more [] y f g = g
in_mm_more (of_rain r ∷ years) y f g = (f.0, in_mm_more years y f.1 g)
in_mm_more (of_gauge x ∷ years) y f g = in_mm_more years y f g

-- The sum of rain years in millimetres, in 60,000,000ths, and a hundred times it in 6,000,000,000ths.
mm_rain_sum : ℕ → ℕ → List Rain → ℕ
mm_rain_sum A S [] = 0
mm_rain_sum A S (r ∷ rains) = mm_year A S r.depth + mm_rain_sum A S rains

mm_sum : (A S : ℕ) (rains : List Rain) → mm_years_sum A S (map of_rain rains) ≡ pos (mm_rain_sum A S rains)
unfolding mm_years_sum mm_rain_sum
mm_sum A S [] = refl
mm_sum A S (r ∷ rains) = ap (λ (z : ℤ). pos (mm_year A S r.depth) +ℤ z) (mm_sum A S rains)

tenfold_sum : (A S : ℕ) (rains : List Rain) → InMm (map of_rain rains) → years_sum A S (map of_rain rains) ≡ pos (100 * mm_rain_sum A S rains)
unfolding years_sum mm_rain_sum
tenfold_sum A S [] f = refl
tenfold_sum A S (r ∷ rains) f =
    let year : rain_year A S (in_tenths r.measure r.depth) ≡ 100 * mm_year A S r.depth
    = ap (λ (m : Measure). rain_year A S (in_tenths m r.depth)) f.0 ∙ tenfold_year A S r.depth in
    (λ i. pos (year i) +ℤ tenfold_sum A S rains f.1 i) ∙ ap pos (omega arith)

-- Gauged years give the same by both.
gauged_sum_lem : (A S : ℕ) (gauges : List Gauged) → years_sum A S (map of_gauge gauges) ≡ mm_years_sum A S (map of_gauge gauges)
unfolding years_sum mm_years_sum
gauged_sum_lem A S [] = refl
gauged_sum_lem A S (y ∷ gauges) = ap (λ (z : ℤ). gauged_of y +ℤ z) (gauged_sum_lem A S gauges)

module _ (u : DescribedUnit) where
  -- A gauged unit has the same sum by both.
  same_sum : GaugedUnit u → sum_on u.plots u.years ≡ mm_sum_on u.plots u.years
  same_sum g =
      let A = area_of u.plots in
      let S = weighted_of u.plots in
      ap (years_sum A S) g.all_gauged ∙ gauged_sum_lem A S g.gauges ∙ sym (ap (mm_years_sum A S) g.all_gauged)

  rain_runoff_lem : (r : RainUnit u) → InMm (map of_rain r.rains) → runoff_of u.plots u.years ≡ mm_runoff u.plots u.years
  rain_runoff_lem r f =
      let A = area_of u.plots in
      let S = weighted_of u.plots in
      let L = length u.years in
      let n = mm_rain_sum A S r.rains in
      let new : sum_on u.plots u.years ≡ pos (100 * n) = ap (years_sum A S) r.all_rain ∙ tenfold_sum A S r.rains f in
      let old : mm_sum_on u.plots u.years ≡ pos n = ap (mm_years_sum A S) r.all_rain ∙ mm_sum A S r.rains in
      let soiled : eqb (length u.plots) 0 ≡ false = ne_eqb (length u.plots) 0 (omega (arith, r.soiled)) in
      let parts : L * 6000000000 ≡ 100 * (L * 60000000) = omega arith in
      (λ i. rounded (above (new i)) (divisor (soiled i) L))
      ∙ ap (rounded (100 * n)) parts
      ∙ rounded_scaled n (L * 60000000)
      ∙ sym (λ i. rounded (above (old i)) (cond (soiled i) L (L * 60000000)))

  gauged_runoff_lem : GaugedUnit u → runoff_of u.plots u.years ≡ mm_runoff u.plots u.years
  gauged_runoff_lem g =
      let L = length u.years in
      let bare : eqb (length u.plots) 0 ≡ true = eq-eqb (length u.plots) 0 (ap length g.bare) in
      (λ i. rounded (above (same_sum g i)) (divisor (bare i) L))
      ∙ sym (λ i. rounded (above (mm_sum_on u.plots u.years)) (cond (bare i) L (L * 60000000)))

  in_mm_rains : (r : RainUnit u) → InMm u.years → InMm (map of_rain r.rains)
  in_mm_rains r f = rw r.all_rain at f

  -- The natural runoff is the same.
  pub same_runoff : Kind u → InMm u.years → runoff_of u.plots u.years ≡ mm_runoff u.plots u.years
  same_runoff (inl r) f = rain_runoff_lem r (in_mm_rains r f)
  same_runoff (inr g) f = gauged_runoff_lem g
