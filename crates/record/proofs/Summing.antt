-- The sums that are kept of the open unit are those of its records: one record more is one record more in the sums. Assumes nothing.
use Prim.Native.Nat.{ℕ, ◌+◌}
use mathlib.Core.Path.{◌≡◌, refl, sym, ap, ◌∙◌}
use mathlib.Core.List.{List, [], ◌∷◌, ◌++◌}
use lib.IntN.{pos}
use lib.ListN.{length, length-append}
use native.Mathlib.Omega.{arith}
use Rattle.laws.specs.Signed.{above, below}
use Rattle.runoff.specs.declared.Measure.{Measure}
use Rattle.runoff.specs.declared.Plot.{Plot}
use Rattle.runoff.specs.Record.{Year, of_rain, of_gauge, area_of, weighted_of, rain_of, year_gives, years_sum, sum_on}
use Rattle.runoff.specs.Walk.{walked}
use Rattle.runoff.specs.declared.Soils.{Soils}
use Rattle.runoff.proofs.Walking.{walked_none, walked_one, walked_append}
use Rattle.record.specs.declared.UnitRecord.{UnitRecord}
use Rattle.runoff.proofs.Record.{area_of_more, weighted_of_more, years_sum_more}
use Rattle.record.specs.Record.{unit_record, with_sums, with_soil, with_soils, soils_of, with_year, gauge_of, no_sums}
use Rattle.record.specs.Described.{DescribedUnit, unit_at, plot_at, rain_at, gauged_at, with_records, add_plot, add_year, no_unit, summed}
use Rattle.record.specs.Bytes.{bits8, bits32}
use Rattle.record.specs.Fault.{Sane}
use Rattle.record.proofs.Clean.{Fine}

one_more : {A : Type 0} (xs : List A) (x : A) → length (xs ++ (x ∷ [])) ≡ length xs + 1
one_more xs x = length-append xs (x ∷ [])

-- A unit with no years has the sum of none, whatever its soil.
no_years : (A S B T : ℕ) (years : List Year) → length years ≡ 0 → years_sum A S years ≡ years_sum B T years
unfolding years_sum
no_years A S B T [] e = refl
no_years A S B T (y ∷ years) e = absurd (omega arith)

pub summed_none : summed no_unit ≡ no_sums
unfolding area_of weighted_of years_sum
summed_none = refl

pub summed_unit : (s : List ℕ) (i : ℕ) → summed (unit_at s i) ≡ unit_record s i
unfolding area_of weighted_of years_sum
summed_unit s i = refl

pub summed_plot : (u : DescribedUnit) (p : Plot) → length u.years ≡ 0
    → summed (add_plot u p) ≡ with_soil (summed u) p.cover p.soil p.hectares
summed_plot u p e = λ i.
    with_sums (summed u) (one_more u.plots p i) (area_of_more u.plots p i) (weighted_of_more u.plots p i) (length u.years)
    (no_years (area_of (u.plots ++ (p ∷ []))) (weighted_of (u.plots ++ (p ∷ []))) (area_of u.plots) (weighted_of u.plots) u.years e i)

-- Soil records read one after another, each from the two sums that the one before left, leave the two sums of one walk over them all.
pub reading_walks : (u : UnitRecord) (plots : List Plot) → soils_of (with_soils u plots) ≡ walked (soils_of u) plots
unfolding with_soils
reading_walks u [] = sym (walked_none (soils_of u))
reading_walks u (p ∷ plots) =
    reading_walks (with_soil u p.cover p.soil p.hectares) plots
    ∙ ap (λ (s : Soils). walked s plots) (sym (walked_one (soils_of u) p)) ∙ walked_append (soils_of u) (p ∷ []) plots

pub summed_year : (u : DescribedUnit) (y : Year)
    → summed (add_year u y) ≡ with_year (summed u) (year_gives (area_of u.plots) (weighted_of u.plots) y)
summed_year u y = λ i.
    with_sums (summed u) (length u.plots) (area_of u.plots) (weighted_of u.plots) (one_more u.years y i)
    (years_sum_more (area_of u.plots) (weighted_of u.plots) u.years y i)

-- A unit that begins has the sums of no records.
pub begun_sane : (u : DescribedUnit) → u.plots ≡ [] → u.years ≡ [] → Sane (summed u)
unfolding area_of weighted_of years_sum
begun_sane u p y =
    let soils : length u.plots ≡ 0 = ap length p in
    let area : area_of u.plots ≡ 0 = ap area_of p in
    let weight : weighted_of u.plots ≡ 0 = ap weighted_of p in
    let years : length u.years ≡ 0 = ap length y in
    let sum : sum_on u.plots u.years ≡ pos 0 = λ i. sum_on (p i) (y i) in
    let high : above (sum_on u.plots u.years) ≡ 0 = ap above sum in
    let low : below (sum_on u.plots u.years) ≡ 0 = ap below sum in
    record { few = omega arith; area = omega arith; weight = omega arith; short = omega arith; gains = omega arith; losses = omega arith; rain = λ n. low }

-- The same of the SU, the PR or PD, and the AF at an offset.
pub summed_soil : (s : List ℕ) (i : ℕ) (u : DescribedUnit) → length u.years ≡ 0
    → summed (add_plot u (plot_at s i)) ≡ with_soil (summed u) (bits8 s (i + 2)) (bits8 s (i + 3)) (bits32 s (i + 4))
summed_soil s i u e = summed_plot u (plot_at s i) e

pub summed_rain : (m : Measure) (s : List ℕ) (i : ℕ) (u : DescribedUnit)
    → summed (add_year u (of_rain (rain_at m s i))) ≡ with_year (summed u) (pos (rain_of (area_of u.plots) (weighted_of u.plots) (rain_at m s i)))
summed_rain m s i u = summed_year u (of_rain (rain_at m s i))

pub summed_gauge : (s : List ℕ) (i : ℕ) (u : DescribedUnit) → summed (add_year u (of_gauge (gauged_at s i))) ≡ with_year (summed u) (gauge_of s i)
summed_gauge s i u = summed_year u (of_gauge (gauged_at s i))

-- The fields of a unit's UN stay inside their values, whatever records follow.
pub keep_records : (u : DescribedUnit) (plots : List Plot) (years : List Year) (k : ℕ) → Fine k (summed u) → Fine k (summed (with_records u plots years))
keep_records u plots years k f =
    record {
      extraction = f.extraction;
      exports = f.exports;
      imports = f.imports;
      returns = f.returns;
      evaporation = f.evaporation;
      commitment = f.commitment;
      storage = f.storage;
      inner = f.inner;
      onward = f.onward;
    }
