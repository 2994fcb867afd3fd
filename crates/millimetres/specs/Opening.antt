-- What a book opens and prints by document 01's rain rule and marks. Assumes nothing.
use Rattle.std.specs.Prelude.{ℕ, zero, suc, ◌+◌, Bool, true, cond, not, ◌&&◌, List, [], eqb, leb, ltb, length}
use Rattle.model.specs.declared.Refusal.TheVariants.{Short, UnknownMark, OutOfSequence, TooMany, OutsideValues}
use Rattle.model.specs.declared.Balance.{Balance}
use Rattle.model.specs.Answers.{Answer, accepted, refuse}
use Rattle.runoff.specs.Record.{of_rain, of_gauge}
use Rattle.record.specs.declared.UnitRecord.{UnitRecord}
use Rattle.record.specs.Bytes.{bits8}
use Rattle.record.specs.Record.{spells}
use Rattle.record.specs.Entries.{Entry, unit_entry, soil_entry, year_entry, aquifer_entry, EntryAt, no_entry, failing, stands, entry_at}
use Rattle.book.specs.declared.Opened.{Opened}
use Rattle.book.specs.Reading.{Description, last_sums, balance_by, Outcome, refused, ended_by, Verdict, clear, faulty, unless_faulty, entry_verdict, with_entry, opened_by}
use Rattle.listing.specs.Listing.{printed_by}
use Rattle.millimetres.specs.Rule.{mm_unit}

-- The mark PD stands at an offset.
abbrev pub is_pd : List ℕ → ℕ → Bool
is_pd s at = spells (bits8 s at) (bits8 s (at + 1)) 80 68

-- What stands at an offset. PD is an unknown mark, 2.
abbrev pub mm_entry_at : List ℕ → ℕ → EntryAt
mm_entry_at s at = cond (is_pd s at) (failing UnknownMark) (entry_at s at)

-- PR: 3 after AC, before any UN, without SU; 4 a 51st year; 5 rain below 350 or above 2150 mm.
abbrev pub mm_rain_fault : ℕ → ℕ → UnitRecord → ℕ → Answer
mm_rain_fault units aquifers u mm =
    refuse OutOfSequence (ltb 0 aquifers)
    (refuse OutOfSequence (eqb units 0)
    (refuse OutOfSequence (eqb u.soils 0)
    (refuse TooMany (leb 50 u.years)
    (refuse OutsideValues (ltb mm 350)
    (refuse OutsideValues (ltb 2150 mm) accepted)))))

-- A record is refused as the program refuses it, a PR as above. No refusal of a record looks at what rain years give, 9 being of gauged years.
abbrev pub mm_verdict : Description → Entry → ℕ → Verdict
mm_verdict d (unit_entry u) at = entry_verdict d (unit_entry u) at
mm_verdict d (soil_entry p) at = entry_verdict d (soil_entry p) at
mm_verdict d (year_entry (of_rain r)) at =
    unless_faulty (mm_rain_fault (length d.units) (length d.aquifers) (last_sums d) r.depth) at clear
mm_verdict d (year_entry (of_gauge y)) at = entry_verdict d (year_entry (of_gauge y)) at
mm_verdict d (aquifer_entry a) at = entry_verdict d (aquifer_entry a) at

-- Reading a description, record by record, and opening it. The rain rule is in the balance alone, and so in 10 at the end.
abbrev pub mm_balance : Description → Balance
mm_balance d = balance_by mm_unit d

unfoldable pub mm_reading_from : ℕ → List ℕ → ℕ → Description → Outcome
mm_reading_from zero s at d = refused Short at
mm_reading_from (suc records) s at d =
    elim (mm_entry_at s at) [
      | no_entry ↦ ended_by (mm_balance d) d at
      | failing n ↦ refused n at
      | stands e to ↦ elim (mm_verdict d e at) [ clear ↦ mm_reading_from records s to (with_entry d e) | faulty n p ↦ refused n p ]
    ]

abbrev pub mm_opened : List ℕ → Opened
mm_opened s = opened_by mm_balance (mm_reading_from (length s + 1) s 0 (record { units = []; aquifers = [] }))

-- The whole text that is printed for a book.
abbrev pub mm_printed : List ℕ → List ℕ
mm_printed s = printed_by s (mm_opened s)

-- The description's records from an offset on, of at most so many, have no PD among them.
unfoldable pub free_from : ℕ → List ℕ → ℕ → Bool
free_from zero s at = true
free_from (suc records) s at =
    not (is_pd s at) && elim (entry_at s at) [ no_entry ↦ true | failing n ↦ true | stands e to ↦ free_from records s to ]

-- A book without a PD mark.
abbrev pub without_pd : List ℕ → Bool
without_pd s = free_from (length s + 1) s 0
