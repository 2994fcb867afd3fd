-- What records without a fault satisfy, and what they keep of the open unit. Assumes nothing.
use Rattle.std.specs.Prelude.{Ok}
use Prim.Native.Nat.{ℕ, suc, ◌+◌, ◌*◌, ◌≤◌, ◌<◌}
use mathlib.Core.Path.{◌≡◌, sym}
use mathlib.Core.Logic.{◌⊎◌, inl, inr}
use mathlib.Core.Bool.{Bool, true, false, not, ◌&&◌, ◌||◌, true≢false}
use lib.Dec.{eqb, ltb, leb}
use lib.IntN.{ℤ, pos, ◌+ℤ◌}
use lib.Signed.{lt_z}
use native.Mathlib.Omega.{arith}
use borrow.Author.Tests.{ltb-false, leb-false, leb-true, ltb-true, eqb-true, eq-eqb, ne_eqb}
use Rattle.laws.specs.Signed.{above, below}
use Rattle.laws.proofs.Cases.{by_eq}
use Rattle.laws.proofs.Parts.{plus_parts, by_sign, lt_z_false}
use Rattle.laws.proofs.Signs.{below_pos}
use Rattle.model.specs.declared.Refusal.TheVariants.{FewYears, BadGauge}
use Rattle.model.specs.declared.Aquifer.{Aquifer}
use Rattle.model.specs.Answers.{refuse}
use Rattle.runoff.specs.Soil.{Known}
use Rattle.runoff.specs.Mean.{divisor}
use Rattle.runoff.proofs.Record.{weighted_within}
use Rattle.record.specs.declared.UnitRecord.{UnitRecord}
use Rattle.record.specs.Record.{with_soil, with_year, is_gauged}
use Rattle.record.specs.Fault.{Sane, Closed, YearRange, closing_fault, bad_gauge, not_term, terms_outside, stray_commitment, unit_outside, not_onward, unit_fault, aquifer_outside, aquifer_fault}
use Rattle.model.proofs.Answers.{pass}
use Rattle.record.proofs.Faults.{or_left, or_right, outside_storage, terms_within, AquiferWithin, outside_aquifer}
use Rattle.model.specs.Ranges.{is_term, is_committed, is_onward}
use Rattle.model.proofs.Within.{holds, StorageWithin}
use Rattle.figures.specs.Recharge.{is_recharged}

-- The fields of the unit at index k are inside their values, and it drains onward.
pub record Fine (k : ℕ) (u : UnitRecord) : Type 0 where
  pub extraction : u.extraction ≤ 10000000
  pub exports : u.exports ≤ 10000000
  pub imports : u.imports ≤ 10000000
  pub returns : u.returns ≤ 10000000
  pub evaporation : u.evaporation ≤ 10000000
  pub commitment : u.commitment ≤ 10000000
  pub storage : StorageWithin u.storage
  pub inner : (u.downstream ≡ 0) ⊎ (u.commitment ≡ 0)
  pub onward : (u.downstream ≡ 0) ⊎ (suc k < u.downstream)

pub record WellFine (a : Aquifer) : Type 0 where
  pub within : AquiferWithin a
  pub recharged : is_recharged a ≡ true

and_right : (t u : Bool) → t && u ≡ false → t ≡ true → u ≡ false
and_right true u e q = e
and_right false u e q = absurd (true≢false (sym q))

or_else : (t u : Bool) → t || u ≡ true → t ≡ false → u ≡ true
or_else true u e q = absurd (true≢false q)
or_else false u e q = e

unstray : (d c : ℕ) → stray_commitment d c ≡ false → (d ≡ 0) ⊎ (c ≡ 0)
unstray d c e =
    by_eq d 0
    inl
    (λ n. inr (eqb-true c 0 (or_else (eqb d 0) (eqb c 0) (holds (is_committed d c) e) (ne_eqb d 0 n))))

goes_on : (d k : ℕ) → not_onward d (k + 1) ≡ false → (d ≡ 0) ⊎ (suc k < d)
goes_on d k e =
    by_eq d 0
    inl
    (λ n. inr (omega (arith, ltb-true (k + 1) d (or_else (eqb d 0) (ltb (k + 1) d) (holds (is_onward (k + 1) d) e) (ne_eqb d 0 n)))))

-- What a UN without a fault satisfies.
pub record UnitClean (units aquifers : ℕ) (u : UnitRecord) : Type 0 where
  pub room : units < 64
  pub before : aquifers ≡ 0
  pub fine : Fine units u

pub unit_clean : (units aquifers : ℕ) (u : UnitRecord) → unit_fault units aquifers u ≡ Ok tt → UnitClean units aquifers u
unit_clean units aquifers u e =
    let p₁ = pass (ltb 0 aquifers) _ _ e in
    let p₂ = pass (leb 64 units) _ _ p₁.on in
    let p₃ = pass (unit_outside u) _ _ p₂.on in
    let p₄ = pass (not_onward u.downstream (units + 1)) _ _ p₃.on in
    let five = terms_outside u.extraction u.exports u.imports u.returns u.evaporation in
    let t = terms_within u.extraction u.exports u.imports u.returns u.evaporation (or_left five _ p₃.not) in
    let o₁ = or_right five _ p₃.not in
    let o₂ = or_right (not_term u.commitment) _ o₁ in
    record {
      room = leb-false 64 units p₂.not;
      before = omega (arith, ltb-false 0 aquifers p₁.not);
      fine =
          record {
            extraction = t.first;
            exports = t.second;
            imports = t.third;
            returns = t.fourth;
            evaporation = t.fifth;
            commitment = leb-true u.commitment 10000000 (holds (is_term u.commitment) (or_left (not_term u.commitment) _ o₁));
            storage = outside_storage u.storage (or_right (stray_commitment u.downstream u.commitment) _ o₂);
            inner = unstray u.downstream u.commitment (or_left (stray_commitment u.downstream u.commitment) _ o₂);
            onward = goes_on u.downstream units p₄.not;
          };
    }

-- What an AC without a fault satisfies.
pub record AquiferClean (aquifers : ℕ) (a : Aquifer) : Type 0 where
  pub room : aquifers < 32
  pub fine : WellFine a

pub aquifer_clean : (aquifers : ℕ) (a : Aquifer) → aquifer_fault aquifers a ≡ Ok tt → AquiferClean aquifers a
aquifer_clean aquifers a e =
    let p₁ = pass (leb 32 aquifers) _ _ e in
    let p₂ = pass (aquifer_outside a) _ _ p₁.on in
    let p₃ = pass (not (is_recharged a)) _ _ p₂.on in
    record { room = leb-false 32 aquifers p₁.not; fine = record { within = outside_aquifer a p₂.not; recharged = holds (is_recharged a) p₃.not } }

-- A unit that closes has enough years, a sum that is not negative and a mean of at most 10,000,000.
gauged_most : (years : ℕ) (sum : ℤ) → (lt_z sum (pos 0) || lt_z (pos (10000000 * years)) sum) ≡ false → above sum ≤ 10000000 * years
gauged_most years sum e =
    by_sign sum
    (λ h. omega (arith, lt_z_false (pos (10000000 * years)) sum (or_right (lt_z sum (pos 0)) _ e)))
    (λ h k. omega arith)

gauged_least : (years : ℕ) (sum : ℤ) → (lt_z sum (pos 0) || lt_z (pos (10000000 * years)) sum) ≡ false → below sum ≡ 0
gauged_least years sum e = sym (below_pos sum (or_left (lt_z sum (pos 0)) _ e))

least_of : (u : UnitRecord) → Sane u → bad_gauge u.soils u.years u.sum ≡ false → below u.sum ≡ 0
least_of u s e =
    by_eq u.soils 0
    (λ z. gauged_least u.years u.sum (and_right (eqb u.soils 0) _ e (eq-eqb u.soils 0 z)))
    s.rain

mean_of : (u : UnitRecord) → Sane u → bad_gauge u.soils u.years u.sum ≡ false
    → above u.sum ≤ 10000000 * divisor (is_gauged u) u.years
mean_of u s e =
    by_eq u.soils 0
    (λ z. rw (eq-eqb u.soils 0 z) (gauged_most u.years u.sum (and_right (eqb u.soils 0) _ e (eq-eqb u.soils 0 z))))
    (λ z. rw (ne_eqb u.soils 0 z) (omega (arith, s.gains)))

closing_rest : (units : ℕ) (u : UnitRecord) → (units ≡ 0 → ⊥) → closing_fault units u ≡ Ok tt
    → refuse FewYears (ltb u.years 20) (refuse BadGauge (bad_gauge u.soils u.years u.sum) (Ok tt)) ≡ Ok tt
closing_rest units u n e = rw (ne_eqb units 0 n) at e

pub closing_clean : (units : ℕ) (u : UnitRecord) → closing_fault units u ≡ Ok tt → (units ≡ 0 → ⊥) → Sane u → Closed u
closing_clean units u e n s =
    let p₁ = pass (ltb u.years 20) _ _ (closing_rest units u n e) in
    let p₂ = pass (bad_gauge u.soils u.years u.sum) _ _ p₁.on in
    record { sane = s; enough = ltb-false u.years 20 p₁.not; least = least_of u s p₂.not; mean = mean_of u s p₂.not }

-- A year, or a soil record, more keeps the open unit's numbers small.
above_plus : (a b : ℤ) → above (a +ℤ b) ≤ above a + above b
above_plus a b = by_sign (a +ℤ b) (λ h. omega (arith, plus_parts a b)) (λ h k. omega arith)

below_plus : (a b : ℤ) → below (a +ℤ b) ≤ below a + below b
below_plus a b = by_sign (a +ℤ b) (λ h. omega arith) (λ h k. omega (arith, plus_parts a b))

pub year_sane : (u : UnitRecord) (year : ℤ) → Sane u → u.years < 50 → YearRange year → ((u.soils ≡ 0 → ⊥) → below year ≡ 0)
    → Sane (with_year u year)
year_sane u year s h r q =
    record {
      few = s.few;
      area = s.area;
      weight = s.weight;
      short = omega arith;
      gains = omega (arith, above_plus u.sum year, s.gains, r.gain);
      losses = omega (arith, below_plus u.sum year, s.losses, r.loss);
      rain = λ n. omega (arith, below_plus u.sum year, s.rain n, q n);
    }

pub soil_sane : (u : UnitRecord) (cover soil hectares : ℕ) → Sane u → u.years ≡ 0 → u.soils < 16 → Known cover soil → u.hectares + hectares ≤ 300000
    → Sane (with_soil u cover soil hectares)
soil_sane u cover soil hectares s z h k a =
    record {
      few = omega arith;
      area = a;
      weight = omega (arith, s.weight, weighted_within cover soil hectares k);
      short = s.short;
      gains = s.gains;
      losses = s.losses;
      rain = λ n. omega (arith, s.losses);
    }
