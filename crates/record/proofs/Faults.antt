-- What a field that is not outside its values satisfies. Assumes nothing.
use Rattle.std.specs.Prelude.{Ok}
use Prim.Native.Nat.{ℕ, ◌+◌, ◌*◌, ◌≤◌, ◌<◌}
use mathlib.Core.Path.{◌≡◌, refl, sym, ◌∙◌}
use mathlib.Core.Bool.{Bool, true, false, ◌||◌, true≢false}
use lib.Dec.{eqb, ltb, leb}
use lib.IntN.{ℤ}
use native.Mathlib.Omega.{arith}
use borrow.Author.Tests.{ltb-false, leb-false, eqb-false, lt-ltb, le-ltb}
use Rattle.laws.proofs.Cases.{by_lt}
use Rattle.laws.proofs.Parts.{less_above, less_below}
use Rattle.model.specs.declared.Aquifer.{Aquifer}
use Rattle.model.proofs.Answers.{pass}
use Rattle.model.specs.Ranges.{are_terms, is_storage, aquifer_within}
use Rattle.model.proofs.Within.{holds, first_within, StorageWithin, storage_within}
use Rattle.laws.proofs.Every.{both}
use mathlib.Core.List.{[], ◌∷◌}
use Rattle.record.specs.declared.UnitRecord.{UnitRecord}
use Rattle.runoff.specs.Soil.{Known}
use Rattle.record.specs.Fault.{not_storage, terms_outside, aquifer_outside, soil_outside, soil_fault, rain_outside, rain_fault, gauge_fault, YearRange, gauged_outside}
use Rattle.runoff.specs.declared.Measure.{Measure}
use Rattle.runoff.specs.declared.Measure.TheVariants.{Millimetres, Tenths}
use Rattle.runoff.specs.Year.{in_tenths}
use Rattle.runoff.specs.declared.Gauged.{Gauged}
use Rattle.runoff.specs.Record.{gauged_of}
use Rattle.runoff.proofs.GaugedParts.{gauged_parts}

-- A disjunction that fails, by its two sides.
pub or_left : (t u : Bool) → t || u ≡ false → t ≡ false
or_left true u e = e
or_left false u e = refl

pub or_right : (t u : Bool) → t || u ≡ false → u ≡ false
or_right true u e = absurd (true≢false e)
or_right false u e = e

pub outside_storage : (z : ℤ) → not_storage z ≡ false → StorageWithin z
outside_storage z e = storage_within z (holds (is_storage z) e)

pub record AquiferWithin (a : Aquifer) : Type 0 where
  pub natural : a.natural ≤ 10000000
  pub pumped : a.pumped ≤ 10000000
  pub committed : a.committed ≤ 10000000
  pub extraction : a.extraction ≤ 10000000
  pub storage : StorageWithin a.storage

pub outside_aquifer : (a : Aquifer) → aquifer_outside a ≡ false → AquiferWithin a
outside_aquifer a e =
    let p = both (are_terms (a.natural ∷ a.pumped ∷ a.committed ∷ a.extraction ∷ [])) (is_storage a.storage) (holds (aquifer_within a) e) in
    let n = first_within a.natural _ p.0 in
    let m = first_within a.pumped _ n.rest in
    let c = first_within a.committed _ m.rest in
    record {
      natural = n.first;
      pumped = m.first;
      committed = c.first;
      extraction = (first_within a.extraction _ c.rest).first;
      storage = storage_within a.storage p.1;
    }

-- What a record without a fault satisfies.
pub record SoilClean (units aquifers : ℕ) (u : UnitRecord) (cover soil hectares : ℕ) : Type 0 where
  pub after : (units ≡ 0 → ⊥)
  pub before : aquifers ≡ 0
  pub fresh : u.years ≡ 0
  pub room : u.soils < 16
  pub known : Known cover soil
  pub area : u.hectares + hectares ≤ 300000

pub soil_clean : (units aquifers : ℕ) (u : UnitRecord) (cover soil hectares : ℕ)
    → soil_fault units aquifers u cover soil hectares ≡ Ok tt → SoilClean units aquifers u cover soil hectares
soil_clean units aquifers u cover soil hectares e =
    let p₁ = pass (ltb 0 aquifers) _ _ e in
    let p₂ = pass (eqb units 0) _ _ p₁.on in
    let p₃ = pass (ltb 0 u.years) _ _ p₂.on in
    let p₄ = pass (leb 16 u.soils) _ _ p₃.on in
    let p₅ = pass (soil_outside cover soil hectares) _ _ p₄.on in
    let p₆ = pass (ltb 300000 (u.hectares + hectares)) _ _ p₅.on in
    let o₁ = p₅.not in
    let o₂ = or_right (ltb cover 1) _ o₁ in
    let o₃ = or_right (ltb 14 cover) _ o₂ in
    let o₄ = or_right (ltb soil 1) _ o₃ in
    record {
      after = eqb-false units 0 p₂.not;
      before = omega (arith, ltb-false 0 aquifers p₁.not);
      fresh = omega (arith, ltb-false 0 u.years p₃.not);
      room = leb-false 16 u.soils p₄.not;
      known =
          record {
            cover_from = ltb-false cover 1 (or_left (ltb cover 1) _ o₁);
            cover_to = ltb-false 14 cover (or_left (ltb 14 cover) _ o₂);
            soil_from = ltb-false soil 1 (or_left (ltb soil 1) _ o₃);
            soil_to = ltb-false 3 soil (or_left (ltb 3 soil) _ o₄);
          };
      area = ltb-false 300000 (u.hectares + hectares) p₆.not;
    }

-- Rain inside its values is at most 21,500 tenths, in either measure.
rain_most : (m : Measure) (depth : ℕ) → rain_outside m depth ≡ false → in_tenths m depth ≤ 21500
rain_most Millimetres mm e = omega (arith, ltb-false 2150 mm (or_right (ltb mm 350) _ e))
rain_most Tenths p e = ltb-false 21500 p (or_right (ltb p 3500) _ e)

-- Millimetres are inside their values exactly where ten times as many tenths are, so that a year may be tested in tenths.
outside_in_tenths : (m : Measure) (depth : ℕ) → rain_outside Tenths (in_tenths m depth) ≡ rain_outside m depth
outside_in_tenths Millimetres mm = λ i. low i || high i
  where
    low : ltb (10 * mm) 3500 ≡ ltb mm 350
    low = by_lt mm 350 (λ h. lt-ltb (10 * mm) 3500 (omega arith) ∙ sym (lt-ltb mm 350 h)) (λ h. le-ltb (10 * mm) 3500 (omega arith) ∙ sym (le-ltb mm 350 h))

    high : ltb 21500 (10 * mm) ≡ ltb 2150 mm
    high =
        by_lt 2150 mm (λ h. lt-ltb 21500 (10 * mm) (omega arith) ∙ sym (lt-ltb 2150 mm h)) (λ h. le-ltb 21500 (10 * mm) (omega arith) ∙ sym (le-ltb 2150 mm h))
outside_in_tenths Tenths p = refl

pub fault_in_tenths : (units aquifers : ℕ) (u : UnitRecord) (m : Measure) (depth : ℕ)
    → rain_fault units aquifers u Tenths (in_tenths m depth) ≡ rain_fault units aquifers u m depth
fault_in_tenths units aquifers u m depth = rw (outside_in_tenths m depth)

pub record RainClean (units aquifers : ℕ) (u : UnitRecord) (m : Measure) (depth : ℕ) : Type 0 where
  pub after : (units ≡ 0 → ⊥)
  pub before : aquifers ≡ 0
  pub soiled : (u.soils ≡ 0 → ⊥)
  pub room : u.years < 50
  pub most : in_tenths m depth ≤ 21500

pub rain_clean : (units aquifers : ℕ) (u : UnitRecord) (m : Measure) (depth : ℕ) → rain_fault units aquifers u m depth ≡ Ok tt
    → RainClean units aquifers u m depth
rain_clean units aquifers u m depth e =
    let p₁ = pass (ltb 0 aquifers) _ _ e in
    let p₂ = pass (eqb units 0) _ _ p₁.on in
    let p₃ = pass (eqb u.soils 0) _ _ p₂.on in
    let p₄ = pass (leb 50 u.years) _ _ p₃.on in
    let p₅ = pass (rain_outside m depth) _ _ p₄.on in
    record {
      after = eqb-false units 0 p₂.not;
      before = omega (arith, ltb-false 0 aquifers p₁.not);
      soiled = eqb-false u.soils 0 p₃.not;
      room = leb-false 50 u.years p₄.not;
      most = rain_most m depth p₅.not;
    }

pub record GaugeClean (units aquifers : ℕ) (u : UnitRecord) (outside : Bool) : Type 0 where
  pub after : (units ≡ 0 → ⊥)
  pub before : aquifers ≡ 0
  pub bare : u.soils ≡ 0
  pub room : u.years < 50
  pub inside : outside ≡ false

pub gauge_clean : (units aquifers : ℕ) (u : UnitRecord) (outside : Bool)
    → gauge_fault units aquifers u outside ≡ Ok tt → GaugeClean units aquifers u outside
gauge_clean units aquifers u outside e =
    let p₁ = pass (ltb 0 aquifers) _ _ e in
    let p₂ = pass (eqb units 0) _ _ p₁.on in
    let p₃ = pass (ltb 0 u.soils) _ _ p₂.on in
    let p₄ = pass (leb 50 u.years) _ _ p₃.on in
    let p₅ = pass outside _ _ p₄.on in
    record {
      after = eqb-false units 0 p₂.not;
      before = omega (arith, ltb-false 0 aquifers p₁.not);
      bare = omega (arith, ltb-false 0 u.soils p₃.not);
      room = leb-false 50 u.years p₄.not;
      inside = p₅.not;
    }

-- A gauged year whose fields are inside is small enough to be added up.
pub record TermsWithin (a b c d e : ℕ) : Type 0 where
  pub first : a ≤ 10000000
  pub second : b ≤ 10000000
  pub third : c ≤ 10000000
  pub fourth : d ≤ 10000000
  pub fifth : e ≤ 10000000

pub terms_within : (a b c d e : ℕ) → terms_outside a b c d e ≡ false → TermsWithin a b c d e
terms_within a b c d e q =
    let p₁ = first_within a _ (holds (are_terms (a ∷ b ∷ c ∷ d ∷ e ∷ [])) q) in
    let p₂ = first_within b _ p₁.rest in
    let p₃ = first_within c _ p₂.rest in
    let p₄ = first_within d _ p₃.rest in
    record {
      first = p₁.first;
      second = p₂.first;
      third = p₃.first;
      fourth = p₄.first;
      fifth = (first_within e _ p₄.rest).first;
    }

-- A gauged year that is not outside its values: its storage change is in its range, and it is small enough to be added up.
pub gauged_storage : (y : Gauged) → gauged_outside y ≡ false → StorageWithin y.storage
gauged_storage y q =
    outside_storage y.storage
    (or_right (terms_outside y.extraction y.exports y.imports y.returns y.evaporation) _
    (or_right (ltb 2000000000 y.inflow) _ (or_right (ltb 2000000000 y.outflow) _ q)))

pub gauged_range : (y : Gauged) → gauged_outside y ≡ false → YearRange (gauged_of y)
gauged_range y q =
    let q₂ = or_right (ltb 2000000000 y.outflow) _ q in
    let q₃ = or_right (ltb 2000000000 y.inflow) _ q₂ in
    let t = terms_within y.extraction y.exports y.imports y.returns y.evaporation (or_left (terms_outside y.extraction y.exports y.imports y.returns y.evaporation) _ q₃) in
    let z = gauged_storage y q in
    let o = ltb-false 2000000000 y.outflow (or_left (ltb 2000000000 y.outflow) _ q) in
    let n = ltb-false 2000000000 y.inflow (or_left (ltb 2000000000 y.inflow) _ q₂) in
    let p = gauged_parts y.outflow y.inflow y.extraction y.exports y.imports y.returns y.evaporation y.storage in
    record { gain = omega (arith, less_above p); loss = omega (arith, less_below p) }
