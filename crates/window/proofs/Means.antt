-- The mean of each window is its natural runoff. Assumes nothing.
use Rattle.std.proofs.Common.{◌≡◌, ◌∙◌, ℕ, ◌+◌, ◌*◌, ◌≤◌, ◌<◌, List, [], ◌∷◌, map, length, sym, ap, refl, arith, false, ℤ, pos, ◌+ℤ◌}
use Rattle.std.specs.List.{All, sum_by}
use Rattle.std.proofs.lemmas.Bool.{ne_eqb}
use Rattle.std.proofs.lemmas.List.{length-map}
use Rattle.std.proofs.lemmas.List.Elements.{All-weaker, All-head, All-tail}
use Rattle.std.proofs.lemmas.List.Sums.{sum_by-cons}
use Rattle.laws.proofs.Arrays.{table_same}
use Rattle.laws.specs.Table.{table}
use Rattle.runoff.specs.Year.{rain_year}
use Rattle.runoff.specs.Mean.{natural_runoff}
use Rattle.runoff.specs.Record.{area_of, weighted_of, years_sum}
use Rattle.runoff.specs.Walk.{walked, no_soils}
use Rattle.runoff.specs.declared.Plot.{Plot}
use Rattle.runoff.specs.declared.Soils.{Soils}
use Rattle.runoff.proofs.Record.{weighted_within}
use Rattle.runoff.proofs.Rounding.{natural_within}
use Rattle.runoff.proofs.Walking.{walked_from_none}
use Rattle.window.specs.Window.{year_of, window, window_runoff, window_count, window_limit}
use Rattle.window.specs.Moving.{window_sum, mean_at, means_of, Movable}
use Rattle.window.specs.Handed.{SoilInside, RainInside, Handed}
use Rattle.window.proofs.Sums.{length_window, window_within}

-- The sum of years of rain in tenths is the sum of what each gives.
tenths_sum : (A S : ℕ) (years : List ℕ) → years_sum A S (map year_of years) ≡ pos (sum_by (rain_year A S) years)
unfolding years_sum
tenths_sum A S [] = refl
tenths_sum A S (p ∷ years) =
    ap (λ (z : ℤ). pos (rain_year A S p) +ℤ z) (tenths_sum A S years) ∙ ap pos (sym (sum_by-cons (rain_year A S) p years))

-- The mean of a window on a unit's soil records is the natural runoff of the unit with just the window's years.
pub mean_runoff : (plots : List Plot) (years : List ℕ) (width i : ℕ) → 0 < length plots → i + width ≤ length years
    → mean_at (walked no_soils plots) years width i ≡ window_runoff plots years width i
mean_runoff plots years width i h g =
    let w = window width years i in
    ap (λ (s : Soils). mean_at s years width i) (walked_from_none plots)
    ∙ sym (λ j. natural_runoff (ne_eqb (length plots) 0 (omega arith) j) ((length-map w year_of ∙ length_window years width i g) j)
    (tenths_sum (area_of plots) (weighted_of plots) w j))

-- The weighted sum is at most 33 times the hectares.
weighted_most : (plots : List Plot) → All SoilInside plots → weighted_of plots ≤ 33 * area_of plots
unfolding area_of weighted_of
weighted_most [] a = omega arith
weighted_most (p ∷ plots) a =
    omega (
      arith,
      weighted_within p.cover p.soil p.hectares (All-head SoilInside p plots a).known,
      weighted_most plots (All-tail SoilInside p plots a),
    )

-- What may be handed in has windows that may be moved, and their means are their natural runoffs.
pub handed_movable : (plots : List Plot) (years : List ℕ) (width : ℕ) → Handed plots years width → Movable (walked no_soils plots) years width
handed_movable plots years width h =
    record {
      yielding =
          record {
            area = omega (arith, h.area);
            weighted = omega (arith, weighted_most plots h.soils);
            rain = All-weaker RainInside (λ p. p ≤ 21500) (λ p r. r.rain_to) years h.rains;
          };
      least = h.width_from;
      most = h.width_to;
      within = h.years_from;
      short = h.years_to;
    }

pub means_runoffs : (plots : List Plot) (years : List ℕ) (width : ℕ) → Handed plots years width
    → means_of (walked no_soils plots) years width ≡ table window_limit 0 (window_count years width) (window_runoff plots years width)
means_runoffs plots years width h =
    table_same window_limit 0 (window_count years width) _ _
    (omega (arith, h.years_to, h.width_from))
    (λ k l. mean_runoff plots years width k (omega (arith, h.plots_from)) (omega (arith, h.years_from)))

-- The natural runoff of a window is at most 10,000,000.
pub window_runoff_within : (plots : List Plot) (years : List ℕ) (width i : ℕ) → Handed plots years width → i + width ≤ length years
    → window_runoff plots years width i ≤ 10000000
window_runoff_within plots years width i h g =
    let sum = window_sum (walked no_soils plots) years width i in
    omega (
      arith,
      mean_runoff plots years width i (omega (arith, h.plots_from)) g,
      natural_within false width (pos sum) (omega (arith, h.width_from))
          (omega (arith, window_within (walked no_soils plots) years width i (handed_movable plots years width h).yielding g)),
    )
