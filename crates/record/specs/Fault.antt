-- The refusals of reading (document 01, "What each operation refuses"; document 02 [1]), first match wins.
-- They work on the number of units and aquifers read so far and on the open unit. Assumes nothing.
use Rattle.std.specs.Prelude.{ℕ, ◌+◌, ◌*◌, ◌≤◌, ◌≡◌, Bool, cond, not, ◌&&◌, ◌||◌, List, [], ◌∷◌, eqb, leb, ltb, ℤ, pos}
use Rattle.std.specs.Int.Signed.{lt_z}
use Rattle.laws.specs.Signed.{above, below}
use Rattle.model.specs.declared.Refusal.TheVariants.{OutOfSequence, TooMany, OutsideValues, FewYears, LargeUnit, BadDownstream, BadGauge, NegativeRecharge}
use Rattle.model.specs.declared.Aquifer.{Aquifer}
use Rattle.model.specs.Answers.{Answer, accepted, refuse}
use Rattle.model.specs.Limits.{unit_limit, aquifer_limit, term_limit}
use Rattle.model.specs.Ranges.{is_term, are_terms, is_storage, is_committed, is_onward, aquifer_within}
use Rattle.figures.specs.Recharge.{is_recharged}
use Rattle.runoff.specs.Mean.{divisor}
use Rattle.runoff.specs.declared.Measure.{Measure}
use Rattle.runoff.specs.declared.Measure.TheVariants.{Millimetres, Tenths}
use Rattle.runoff.specs.declared.Gauged.{Gauged}
use Rattle.runoff.specs.Record.{Year, of_rain, of_gauge}
use Rattle.record.specs.Bytes.{bits32, signed_bits32}
use Rattle.record.specs.Record.{is_gauged}
use Rattle.record.specs.declared.UnitRecord.{UnitRecord}

-- A field outside its values: a term is at most 10,000,000, a storage change lies from −10,000,000 to 10,000,000.
abbrev pub not_term : ℕ → Bool
not_term x = not (is_term x)

abbrev pub not_storage : ℤ → Bool
not_storage z = not (is_storage z)

-- The five terms that UN and AF share.
abbrev pub terms_outside : ℕ → ℕ → ℕ → ℕ → ℕ → Bool
terms_outside extraction exports imports returns evaporation =
    not (are_terms (extraction ∷ exports ∷ imports ∷ returns ∷ evaporation ∷ []))

-- UN, AC or the description's end closes the open unit: 6 under 20 years, 9 gauged sum negative or above 10,000,000 times the years.
abbrev pub bad_gauge : ℕ → ℕ → ℤ → Bool
bad_gauge soils years sum = eqb soils 0 && (lt_z sum (pos 0) || lt_z (pos (term_limit * years)) sum)

abbrev pub closing_by : ℕ → ℕ → ℕ → ℤ → Answer
closing_by units soils years sum =
    cond (eqb units 0) accepted (refuse FewYears (ltb years 20) (refuse BadGauge (bad_gauge soils years sum) accepted))

abbrev pub closing_fault : ℕ → UnitRecord → Answer
closing_fault units u = closing_by units u.soils u.years u.sum

-- UN: all but storage are terms, and the commitment of a unit that is not an outlet is 0.
abbrev pub stray_commitment : ℕ → ℕ → Bool
stray_commitment downstream commitment = not (is_committed downstream commitment)

abbrev pub unit_outside : UnitRecord → Bool
unit_outside u =
    terms_outside u.extraction u.exports u.imports u.returns u.evaporation
    || (not_term u.commitment || (stray_commitment u.downstream u.commitment || not_storage u.storage))

-- A downstream number that is not 0 and not above the unit's own number.
abbrev pub not_onward : ℕ → ℕ → Bool
not_onward downstream own = not (is_onward own downstream)

-- UN: 3 after AC; 4 a 65th unit; 5 a field outside its values; 8 downstream not 0 and not above its own number.
abbrev pub unit_fault : ℕ → ℕ → UnitRecord → Answer
unit_fault units aquifers u =
    refuse OutOfSequence (ltb 0 aquifers)
    (refuse TooMany (leb unit_limit units)
    (refuse OutsideValues (unit_outside u)
    (refuse BadDownstream (not_onward u.downstream (units + 1)) accepted)))

-- SU: cover 1–14, soil 1–3, hectares 1–300,000.
abbrev pub soil_outside : ℕ → ℕ → ℕ → Bool
soil_outside cover soil hectares =
    ltb cover 1 || (ltb 14 cover || (ltb soil 1 || (ltb 3 soil || (ltb hectares 1 || ltb 300000 hectares))))

-- SU: 3 after AC, before any UN, after a year; 4 a 17th SU; 5 a field outside its values; 7 unit above 300,000 hectares.
abbrev pub soil_fault : ℕ → ℕ → UnitRecord → ℕ → ℕ → ℕ → Answer
soil_fault units aquifers u cover soil hectares =
    refuse OutOfSequence (ltb 0 aquifers)
    (refuse OutOfSequence (eqb units 0)
    (refuse OutOfSequence (ltb 0 u.years)
    (refuse TooMany (leb 16 u.soils)
    (refuse OutsideValues (soil_outside cover soil hectares)
    (refuse LargeUnit (ltb 300000 (u.hectares + hectares)) accepted)))))

-- PR: 350 to 2150 mm. PD: 3500 to 21500 tenths.
abbrev pub rain_outside : Measure → ℕ → Bool
rain_outside Millimetres mm = ltb mm 350 || ltb 2150 mm
rain_outside Tenths p = ltb p 3500 || ltb 21500 p

-- PR, and PD as PR is: 3 after AC, before any UN, without SU; 4 a 51st year of either mark; 5 rain outside its values.
abbrev pub rain_fault : ℕ → ℕ → UnitRecord → Measure → ℕ → Answer
rain_fault units aquifers u measure depth =
    refuse OutOfSequence (ltb 0 aquifers)
    (refuse OutOfSequence (eqb units 0)
    (refuse OutOfSequence (eqb u.soils 0)
    (refuse TooMany (leb 50 u.years)
    (refuse OutsideValues (rain_outside measure depth) accepted))))

-- AF: outflow and inflow at most 2,000,000,000, the other five terms, and a storage change.
abbrev pub gauge_outside_by : ℕ → ℕ → Bool → ℤ → Bool
gauge_outside_by outflow inflow terms storage =
    ltb 2000000000 outflow || (ltb 2000000000 inflow || (terms || not_storage storage))

abbrev pub gauge_outside : ℕ → ℕ → ℕ → ℕ → ℕ → ℕ → ℕ → ℤ → Bool
gauge_outside outflow inflow extraction exports imports returns evaporation storage =
    gauge_outside_by outflow inflow (terms_outside extraction exports imports returns evaporation) storage

-- The same of the AF at an offset.
abbrev pub gauge_outside_at : List ℕ → ℕ → Bool
gauge_outside_at s at =
    gauge_outside (bits32 s (at + 2)) (bits32 s (at + 6)) (bits32 s (at + 10)) (bits32 s (at + 14)) (bits32 s (at + 18))
    (bits32 s (at + 22)) (bits32 s (at + 26)) (signed_bits32 s (at + 30))

-- AF: 3 after AC, before any UN, after SU; 4 a 51st year; 5 a field outside its values.
abbrev pub gauge_fault : ℕ → ℕ → UnitRecord → Bool → Answer
gauge_fault units aquifers u outside =
    refuse OutOfSequence (ltb 0 aquifers)
    (refuse OutOfSequence (eqb units 0)
    (refuse OutOfSequence (ltb 0 u.soils)
    (refuse TooMany (leb 50 u.years)
    (refuse OutsideValues outside accepted))))

-- A year, by its kind: PR or PD, or AF.
abbrev pub gauged_outside : Gauged → Bool
gauged_outside y =
    gauge_outside y.outflow y.inflow y.extraction y.exports y.imports y.returns y.evaporation y.storage

abbrev pub year_fault : ℕ → ℕ → UnitRecord → Year → Answer
year_fault units aquifers u (of_rain r) = rain_fault units aquifers u r.measure r.depth
year_fault units aquifers u (of_gauge y) = gauge_fault units aquifers u (gauged_outside y)

-- AC: four terms and a storage change.
abbrev pub aquifer_outside : Aquifer → Bool
aquifer_outside a = not (aquifer_within a)

-- AC: 4 a 33rd aquifer; 5 a field outside its values; 11 recharge negative.
abbrev pub aquifer_fault : ℕ → Aquifer → Answer
aquifer_fault aquifers a =
    refuse TooMany (leb aquifer_limit aquifers) (refuse OutsideValues (aquifer_outside a) (refuse NegativeRecharge (not (is_recharged a)) accepted))

-- What holds of the open unit at every record, since each record that grew it was tested: its numbers are small enough to be added up,
-- and rain years do not sum below 0.
pub record Sane (u : UnitRecord) : Type 0 where
  pub few : u.soils ≤ 16
  pub area : u.hectares ≤ 300000
  pub weight : u.weighted ≤ 33 * u.hectares
  pub short : u.years ≤ 50
  pub gains : above u.sum ≤ 60000000000000000 * u.years
  pub losses : below u.sum ≤ 60000000000000000 * u.years
  pub rain : (u.soils ≡ 0 → ⊥) → below u.sum ≡ 0

-- A year that was read: small enough to be added up.
pub record YearRange (year : ℤ) : Type 0 where
  pub gain : above year ≤ 60000000000000000
  pub loss : below year ≤ 60000000000000000

-- What holds of a unit that was closed: at least 20 years, a sum that is not negative, and a mean of at most 10,000,000.
pub record Closed (u : UnitRecord) : Type 0 where
  pub sane : Sane u
  pub enough : 20 ≤ u.years
  pub least : below u.sum ≡ 0
  pub mean : above u.sum ≤ term_limit * divisor (is_gauged u) u.years
