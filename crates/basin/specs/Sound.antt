-- The test for 0 (document 01, "What each operation refuses"; document 02 [2]): a call gives 0 if the balance handed to it is not sound.
-- Assumes nothing.
use Rattle.std.specs.Prelude.{ℕ, ◌+◌, Bool, true, not, ◌&&◌, ◌||◌, List, [], ◌∷◌, leb, ltb, length, get_or}
use Rattle.std.specs.Int.Signed.{non_neg}
use Rattle.laws.specs.Sum.{every}
use Rattle.model.specs.declared.Unit.{Unit}
use Rattle.model.specs.declared.Aquifer.{Aquifer}
use Rattle.model.specs.declared.Title.{Title}
use Rattle.model.specs.declared.Title.TheVariants.{UnitWithdrawal, AquiferWithdrawal, UnitTransfer, AquiferTransfer, ReturningWithdrawal}
use Rattle.model.specs.declared.Place.{Place}
use Rattle.model.specs.Entries.{volume_of}
use Rattle.model.specs.Fresh.{empty_unit, empty_aquifer, empty_place}
use Rattle.model.specs.declared.Refusal.TheVariants.{NoSuchPlace, NoSuchUse}
use Rattle.model.specs.Answers.{Answer, accepted, refuse}
use Rattle.model.specs.View.{View}
use Rattle.model.specs.Limits.{unit_limit, aquifer_limit, title_limit}
use Rattle.model.specs.Ranges.{is_onward, are_terms, aquifer_within}
use Rattle.river.specs.Flow.{flow}
use Rattle.figures.specs.Recharge.{is_recharged}
use Rattle.titles.specs.Adds.{titled}
use Rattle.titles.specs.declared.Sums.{Sums}
use Rattle.titles.specs.Slot.{Extraction, Exports, Imports, Returns, WellExtraction}
-- A term runs from 0 to 10,000,000, a storage change from −10,000,000 to 10,000,000, and only an outlet has a commitment.
pub use Rattle.model.specs.Ranges.{is_term, is_storage, is_committed}

-- A downstream number is 0, or above the unit's own number and at most the last unit's.
abbrev pub is_downstream : ℕ → ℕ → ℕ → Bool
is_downstream count j d = is_onward (j + 1) d && leb d count

-- Each volume among a unit's entries is a term.
abbrev pub sound_entries : Unit → Bool
sound_entries u =
    are_terms (u.extraction ∷ u.exports ∷ u.imports ∷ u.returns ∷ u.evaporation ∷ u.commitment ∷ u.runoff ∷ [])

-- Each entry of a unit is in its range, its downstream number is sound, and only an outlet has a commitment.
abbrev pub sound_unit : ℕ → ℕ → Unit → Bool
sound_unit count j u =
    sound_entries u && (is_storage u.storage && (is_downstream count j u.downstream && is_committed u.downstream u.commitment))

-- Each entry of an aquifer is in its range, and its recharge is not negative.
abbrev pub sound_aquifer : Aquifer → Bool
sound_aquifer a = aquifer_within a && is_recharged a

-- A number from 1 to the last.
abbrev pub exists : ℕ → ℕ → Bool
exists last n = ltb 0 n && leb n last

-- A volume is not 0 and not above 10,000,000.
abbrev pub is_volume : ℕ → Bool
is_volume x = ltb 0 x && is_term x

-- A title's units and aquifers exist, of so many units and aquifers.
abbrev pub places_exist : ℕ → ℕ → Title → Bool
places_exist units aquifers (UnitWithdrawal u r x) = exists units u
places_exist units aquifers (AquiferWithdrawal a x) = exists aquifers a
places_exist units aquifers (UnitTransfer g r x) = exists units g && exists units r
places_exist units aquifers (AquiferTransfer a u x) = exists aquifers a && exists units u
places_exist units aquifers (ReturningWithdrawal a u r x) = exists aquifers a && exists units u

-- A title's use exists, if it has one.
abbrev pub use_exists : Title → Bool
use_exists (UnitWithdrawal u r x) = exists 7 r
use_exists (AquiferWithdrawal a x) = true
use_exists (UnitTransfer g r x) = true
use_exists (AquiferTransfer a u x) = true
use_exists (ReturningWithdrawal a u r x) = exists 7 r

-- A title's units, aquifers and use exist, and its volume is in its range.
abbrev pub sound_title : ℕ → ℕ → Title → Bool
sound_title units aquifers t = places_exist units aquifers t && (use_exists t && is_volume (volume_of t))

-- A title that names a unit, an aquifer or a use that is not there, of so many units and aquifers.
abbrev pub missing_fault : ℕ → ℕ → Title → Answer
missing_fault units aquifers t =
    refuse NoSuchPlace (not (places_exist units aquifers t)) (refuse NoSuchUse (not (use_exists t)) accepted)

abbrev pub sound_place : ℕ → ℕ → Place → Bool
sound_place units aquifers p = not p.in_force || sound_title units aquifers p.title

-- The entries of a unit cover what titles add together to its extraction, exports, imports and returns.
abbrev pub covers : ℕ → ℕ → ℕ → ℕ → Unit → Bool
covers extraction exports imports returns u =
    leb extraction u.extraction && (leb exports u.exports && (leb imports u.imports && leb returns u.returns))

-- The titles in force do not together exceed the entry that they went into.
abbrev pub covered_unit : View → ℕ → Bool
covered_unit v j =
    covers (titled v v.given Extraction j) (titled v v.given Exports j) (titled v v.given Imports j)
    (titled v v.given Returns j) (v.unit j)

abbrev pub covered_aquifer : View → ℕ → Bool
covered_aquifer v j = leb (titled v v.given WellExtraction j) (v.aquifer j).extraction

-- The entries of a unit cover the sums at index j.
abbrev pub covers_sums : Sums → ℕ → Unit → Bool
covers_sums sums j u =
    covers (get_or sums.extraction j 0) (get_or sums.exports j 0) (get_or sums.imports j 0) (get_or sums.returns j 0) u

-- The unit or the aquifer at index j is sound, and its entries cover what titles add together to them.
abbrev pub unit_holds : List Unit → Sums → ℕ → Bool
unit_holds units sums j =
    sound_unit (length units) j (get_or units j empty_unit) && covers_sums sums j (get_or units j empty_unit)

abbrev pub aquifer_holds : List Aquifer → Sums → ℕ → Bool
aquifer_holds aquifers sums j =
    sound_aquifer (get_or aquifers j empty_aquifer) && leb (get_or sums.wells j 0) (get_or aquifers j empty_aquifer).extraction

-- The counts are within their limits.
abbrev pub sound_counts : View → Bool
sound_counts v = leb v.units unit_limit && (leb v.aquifers aquifer_limit && leb v.given title_limit)

-- Each unit is sound, and so is each aquifer and each title in force.
abbrev pub sound_units : View → Bool
sound_units v = every v.units (λ j. sound_unit v.units j (v.unit j))

abbrev pub sound_aquifers : View → Bool
sound_aquifers v = every v.aquifers (λ j. sound_aquifer (v.aquifer j))

abbrev pub sound_titles : View → Bool
sound_titles v = every v.given (λ k. sound_place v.units v.aquifers (v.place k))

-- Every unit, and every aquifer, is sound, and none of its entries is exceeded by its titles.
abbrev pub units_hold : View → Bool
units_hold v = sound_units v && every v.units (covered_unit v)

abbrev pub aquifers_hold : View → Bool
aquifers_hold v = sound_aquifers v && every v.aquifers (covered_aquifer v)

-- The titles in force, the aquifers and the units.
abbrev pub entries_hold : View → Bool
entries_hold v = sound_titles v && (aquifers_hold v && units_hold v)

-- The view of units, aquifers and titles with their counts: that of a balance is of its parts.
abbrev pub parts_view : List Unit → ℕ → List Aquifer → ℕ → List Place → ℕ → View
parts_view us n ws m ts given =
    record {
      units = n;
      unit = λ k. get_or us k empty_unit;
      aquifers = m;
      aquifer = λ k. get_or ws k empty_aquifer;
      given = given;
      place = λ k. get_or ts k empty_place;
    }

-- No more is lost than gained at each of the first n units.
abbrev pub balanced : ℕ → List ℕ → List ℕ → Bool
balanced n gained lost = every n (λ j. leb (get_or lost j 0) (get_or gained j 0))

-- No flow is negative.
abbrev pub flowing : View → Bool
flowing v = every v.units (λ j. non_neg (flow v j))

-- No entry is exceeded by its titles.
abbrev pub covered : View → Bool
covered v = every v.units (covered_unit v) && every v.aquifers (covered_aquifer v)

-- A sound balance: none of the faults that documents 01 and 02 list for 0.
unfoldable pub sound : View → Bool
sound v = sound_counts v && (sound_units v && (sound_aquifers v && (flowing v && (sound_titles v && covered v))))
