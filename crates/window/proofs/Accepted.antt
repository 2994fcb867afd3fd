-- What is accepted for the moving window, and what is cut off. Assumes nothing.
use Rattle.std.proofs.Common.{◌≡◌, ℕ, List, length, arith, Bool, false, eqb, ltb, get_or}
use Rattle.std.specs.List.{All, list_any}
use Rattle.std.proofs.lemmas.Bool.{ltb-false, le-ltb, eqb-false, ne_eqb, or_parts, both_ways, false_from_ne_true}
use Rattle.std.proofs.lemmas.List.Elements.{All-weaker}
use Rattle.std.proofs.lemmas.List.Folds.{list_any_at, list_any_none}
use Rattle.model.specs.Answers.{accepted}
use Rattle.model.proofs.Answers.{pass}
use Rattle.runoff.specs.Record.{area_of}
use Rattle.runoff.specs.declared.Measure.TheVariants.{Tenths}
use Rattle.runoff.specs.declared.Plot.{Plot}
use Rattle.record.specs.Fault.{soil_outside, rain_outside}
use Rattle.window.specs.Refused.{bad_window, soils_outside, rains_outside, windows_refusal}
use Rattle.window.specs.Handed.{SoilInside, RainInside, Handed}

-- A test that no element passes fails at each.
none_passes : {X : Type 0} (t : X → Bool) (xs : List X) → list_any t xs ≡ false → All (λ x. t x ≡ false) xs
none_passes t xs e k d h = false_from_ne_true (t (get_or xs k d)) (λ p. both_ways (list_any t xs) e (list_any_at t xs k d h p))

-- A soil record, and a rain year, that is not outside its values is inside them, and the other way round.
soil_inside : (p : Plot) → soil_outside p.cover p.soil p.hectares ≡ false → SoilInside p
soil_inside p e =
    let a = or_parts (ltb p.cover 1) _ e in
    let b = or_parts (ltb 14 p.cover) _ a.1 in
    let c = or_parts (ltb p.soil 1) _ b.1 in
    let d = or_parts (ltb 3 p.soil) _ c.1 in
    let f = or_parts (ltb p.hectares 1) _ d.1 in
    record {
      known =
          record {
            cover_from = ltb-false p.cover 1 a.0;
            cover_to = ltb-false 14 p.cover b.0;
            soil_from = ltb-false p.soil 1 c.0;
            soil_to = ltb-false 3 p.soil d.0;
          };
      hectares_from = ltb-false p.hectares 1 f.0;
      hectares_to = ltb-false 300000 p.hectares f.1;
    }

soil_not_outside : (p : Plot) → SoilInside p → soil_outside p.cover p.soil p.hectares ≡ false
soil_not_outside p s =
    rw (
      le-ltb p.cover 1 s.known.cover_from,
      le-ltb 14 p.cover s.known.cover_to,
      le-ltb p.soil 1 s.known.soil_from,
      le-ltb 3 p.soil s.known.soil_to,
      le-ltb p.hectares 1 s.hectares_from,
      le-ltb 300000 p.hectares s.hectares_to,
    )

rain_inside : (p : ℕ) → rain_outside Tenths p ≡ false → RainInside p
rain_inside p e = let a = or_parts (ltb p 3500) _ e in record { rain_from = ltb-false p 3500 a.0; rain_to = ltb-false 21500 p a.1 }

rain_not_outside : (p : ℕ) → RainInside p → rain_outside Tenths p ≡ false
rain_not_outside p r = rw (le-ltb p 3500 r.rain_from, le-ltb 21500 p r.rain_to)

-- What is accepted is handed in as it may be, and the other way round.
pub accepted_handed : (plots : List Plot) (years : List ℕ) (width : ℕ) → windows_refusal plots years width ≡ accepted → Handed plots years width
accepted_handed plots years width e =
    let w = pass (bad_window width (length years)) _ _ e in
    let none = pass (eqb (length plots) 0) _ _ w.on in
    let many = pass (ltb 16 (length plots)) _ _ none.on in
    let soils = pass (soils_outside plots) _ _ many.on in
    let large = pass (ltb 300000 (area_of plots)) _ _ soils.on in
    let rains = pass (rains_outside years) _ _ large.on in
    let a = or_parts (ltb width 20) _ w.not in
    let b = or_parts (ltb 50 width) _ a.1 in
    let c = or_parts (ltb (length years) width) _ b.1 in
    record {
      width_from = ltb-false width 20 a.0;
      width_to = ltb-false 50 width b.0;
      years_from = ltb-false (length years) width c.0;
      years_to = ltb-false 200 (length years) c.1;
      plots_from = omega (arith, eqb-false (length plots) 0 none.not);
      plots_to = ltb-false 16 (length plots) many.not;
      soils = All-weaker _ SoilInside soil_inside plots (none_passes _ plots soils.not);
      area = ltb-false 300000 (area_of plots) large.not;
      rains = All-weaker _ RainInside rain_inside years (none_passes _ years rains.not);
    }

pub handed_accepted : (plots : List Plot) (years : List ℕ) (width : ℕ) → Handed plots years width → windows_refusal plots years width ≡ accepted
handed_accepted plots years width h =
    rw (
      le-ltb width 20 h.width_from,
      le-ltb 50 width h.width_to,
      le-ltb (length years) width h.years_from,
      le-ltb 200 (length years) h.years_to,
      ne_eqb (length plots) 0 (omega (arith, h.plots_from)),
      le-ltb 16 (length plots) h.plots_to,
      list_any_none _ plots (All-weaker SoilInside _ soil_not_outside plots h.soils),
      le-ltb 300000 (area_of plots) h.area,
      list_any_none _ years (All-weaker RainInside _ rain_not_outside years h.rains),
    )
