-- A unit is read as a unit with rain years or as a gauged one, and its natural runoff is the mean of those years. Assumes nothing.
use mathlib.Core.Path.{◌≡◌, refl, ap, ◌∙◌}
use mathlib.Core.Logic.{◌⊎◌, inl, inr}
use mathlib.Core.List.{List, [], ◌∷◌, ◌++◌, map}
use lib.ListN.{length, length-append}
use native.Mathlib.Omega.{arith}
use Rattle.runoff.specs.declared.Plot.{Plot}
use Rattle.runoff.specs.declared.Rain.{Rain}
use Rattle.runoff.specs.declared.Gauged.{Gauged}
use Rattle.runoff.specs.Record.{Year, of_rain, of_gauge, rain_runoff, gauged_runoff, runoff_of}
use Rattle.runoff.proofs.Record.{rain_mean, gauged_mean}
use Rattle.record.specs.Described.{DescribedUnit, add_plot, add_year, RainUnit, GaugedUnit, unit_of}

-- Either kind. A unit with no records yet counts as gauged.
abbrev pub Kind : DescribedUnit → Type 0
Kind u = RainUnit u ⊎ GaugedUnit u

pub bare_kind : (u : DescribedUnit) → u.plots ≡ [] → u.years ≡ [] → Kind u
bare_kind u p y = inr (record { gauges = []; bare = p; all_gauged = y })

none : {A : Type 0} (xs : List A) → length xs ≡ 0 → xs ≡ []
none [] e = refl
none (x ∷ xs) e = absurd (omega arith)

map_more : {A B : Type 0} (f : A → B) (xs : List A) (x : A) → map f xs ++ (f x ∷ []) ≡ map f (xs ++ (x ∷ []))
map_more f [] x = refl
map_more f (y ∷ xs) x = ap (λ (l : List _). f y ∷ l) (map_more f xs x)

-- A soil record before any year makes a unit for rain; a rain year comes after soil records, and a gauged year where there are none.
pub plot_kind : (u : DescribedUnit) (p : Plot) → length u.years ≡ 0 → Kind (add_plot u p)
plot_kind u p e = inl (record { rains = []; soiled = omega (arith, length-append u.plots (p ∷ [])); all_rain = none u.years e })

pub rain_kind : (u : DescribedUnit) (rain : Rain) → (length u.plots ≡ 0 → ⊥) → Kind u → Kind (add_year u (of_rain rain))
rain_kind u rain n (inl r) =
    inl (record {
      rains = r.rains ++ (rain ∷ []);
      soiled = r.soiled;
      all_rain = ap (λ (l : List Year). l ++ (of_rain rain ∷ [])) r.all_rain ∙ map_more of_rain r.rains rain;
    })
rain_kind u rain n (inr g) = absurd (n (ap length g.bare))

pub gauge_kind : (u : DescribedUnit) (y : Gauged) → length u.plots ≡ 0 → Kind u → Kind (add_year u (of_gauge y))
gauge_kind u y e (inl r) = absurd (omega (arith, r.soiled))
gauge_kind u y e (inr g) =
    inr (record {
      gauges = g.gauges ++ (y ∷ []);
      bare = g.bare;
      all_gauged = ap (λ (l : List Year). l ++ (of_gauge y ∷ [])) g.all_gauged ∙ map_more of_gauge g.gauges y;
    })

-- The natural runoff of a unit is the mean of its rain years on its soil records, or the mean of its gauged years.
abbrev pub MeanOfYears : DescribedUnit → Type 0
MeanOfYears u =
    ((r : RainUnit u) × ((unit_of u).runoff ≡ rain_runoff u.plots r.rains)) ⊎ ((g : GaugedUnit u) × ((unit_of u).runoff ≡ gauged_runoff g.gauges))

pub mean_of_years : (u : DescribedUnit) → Kind u → MeanOfYears u
mean_of_years u (inl r) = inl (r, ap (runoff_of u.plots) r.all_rain ∙ rain_mean u.plots r.rains r.soiled)
mean_of_years u (inr g) = inr (g, (λ i. runoff_of (g.bare i) (g.all_gauged i)) ∙ gauged_mean g.gauges)
