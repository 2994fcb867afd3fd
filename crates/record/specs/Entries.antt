-- The records of a description (document 01, "The book"; document 02 [1]): what stands at an offset. Assumes nothing.
use Rattle.std.specs.Prelude.{ℕ, ◌+◌, ◌-◌, cond, List, eqb, ltb, length, Option, Some, None}
use Rattle.model.specs.declared.Refusal.{Refusal}
use Rattle.model.specs.declared.Refusal.TheVariants.{Short, UnknownMark}
use Rattle.model.specs.declared.Aquifer.{Aquifer}
use Rattle.runoff.specs.declared.Measure.TheVariants.{Millimetres, Tenths}
use Rattle.runoff.specs.declared.Plot.{Plot}
use Rattle.runoff.specs.Record.{Year, of_rain, of_gauge}
use Rattle.record.specs.declared.Mark.{Mark}
use Rattle.record.specs.declared.Mark.TheVariants.{Un, Su, Pr, Pd, Af, Ac, Call}
use Rattle.record.specs.Bytes.{bits8}
use Rattle.record.specs.Record.{mark_of, aquifer_record}
use Rattle.record.specs.Described.{DescribedUnit, unit_at, plot_at, rain_at, gauged_at}

-- A record of a description by its fields: a UN, an SU, a PR, PD or AF, or an AC.
pub data Entry : Type 0 where
  unit_entry : DescribedUnit → Entry
  soil_entry : Plot → Entry
  year_entry : Year → Entry
  aquifer_entry : Aquifer → Entry

-- What stands at an offset: nothing that belongs to the description, a record that fails with 1 or 2, or a record and the offset of the next.
pub data EntryAt : Type 0 where
  no_entry : EntryAt
  failing : Refusal → EntryAt
  stands : Entry → ℕ → EntryAt

-- 1 fewer bytes left than the record's mark and body.
abbrev pub whole_entry : List ℕ → ℕ → ℕ → Entry → EntryAt
whole_entry s at size e = cond (ltb (length s - at) size) (failing Short) (stands e (at + size))

-- By the mark: UN has 31 bytes, SU 8, PR 4, PD 4, AF 34 and AC 22. A call mark ends the description even if its body is short; 2 unknown mark.
abbrev pub entry_marked : Option Mark → List ℕ → ℕ → EntryAt
entry_marked (Some Un) s at = whole_entry s at 31 (unit_entry (unit_at s at))
entry_marked (Some Su) s at = whole_entry s at 8 (soil_entry (plot_at s at))
entry_marked (Some Pr) s at = whole_entry s at 4 (year_entry (of_rain (rain_at Millimetres s at)))
entry_marked (Some Pd) s at = whole_entry s at 4 (year_entry (of_rain (rain_at Tenths s at)))
entry_marked (Some Af) s at = whole_entry s at 34 (year_entry (of_gauge (gauged_at s at)))
entry_marked (Some Ac) s at = whole_entry s at 22 (aquifer_entry (aquifer_record s at))
entry_marked (Some Call) s at = no_entry
entry_marked None s at = failing UnknownMark

-- Nothing left ends the description too, and a lone last byte is 1.
unfoldable pub entry_at : List ℕ → ℕ → EntryAt
entry_at s at =
    cond (eqb (length s - at) 0) no_entry
    (cond (eqb (length s - at) 1) (failing Short) (entry_marked (mark_of (bits8 s at) (bits8 s (at + 1))) s at))
