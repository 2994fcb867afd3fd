-- What the code's steps give, which keep the counts and sums of the open unit in place of its records. Assumes nothing.
use Rattle.std.specs.Prelude.{ℕ, ◌+◌, ◌-◌, cond, List, eqb, ltb, length, pos, Option, Some, None, Result, Ok, Err}
use Rattle.runoff.specs.declared.Measure.{Measure}
use Rattle.runoff.specs.declared.Measure.TheVariants.{Millimetres, Tenths}
use Rattle.runoff.specs.Record.{rain_of}
use Rattle.record.specs.declared.UnitRecord.{UnitRecord}
use Rattle.record.specs.declared.Mark.{Mark}
use Rattle.record.specs.declared.Failure.{Failure}
use Rattle.record.specs.Calls.{Ending, located}
use Rattle.model.specs.declared.Refusal.{Refusal}
use Rattle.model.specs.declared.Refusal.TheVariants.{Short, UnknownMark}
use Rattle.model.specs.Answers.{Answer, accepted, refuse}
use Rattle.record.specs.declared.Mark.TheVariants.{Un, Su, Pr, Pd, Af, Ac, Call}
use Rattle.book.specs.declared.Next.{Next}
use Rattle.book.specs.declared.Next.TheVariants.{Ends, Opens, Grows, Adds}
use Rattle.record.specs.Bytes.{bits8, bits16, bits32}
use Rattle.record.specs.Record.{mark_of, unit_record, with_soil, with_year, gauge_of, aquifer_record}
use Rattle.record.specs.Described.{rain_at}
use Rattle.record.specs.Fault.{closing_fault, unit_fault, soil_fault, rain_fault, gauge_outside_at, gauge_fault, aquifer_fault}

-- What a record comes to: what it does, or its refusal and the place.
abbrev pub Step : Type 0
Step = Result Next Failure

abbrev pub failed_step : Refusal → ℕ → Step
failed_step r place = Err (record { refusal = r; place = place })

-- A step that follows where nothing fails.
abbrev pub then_step : Ending → Step → Step
then_step (Ok u) go = go
then_step (Err f) go = Err f

-- What a record does, once its bytes are there: it is refused under its fault, or goes on.
abbrev pub unless : Answer → ℕ → Step → Step
unless fault place go = then_step (located fault place) go

-- 1 fewer bytes left than the record's mark and body.
abbrev pub whole_record : List ℕ → ℕ → ℕ → Step → Step
whole_record s at size go = then_step (located (refuse Short (ltb (length s - at) size) accepted) at) go

-- UN: 31 bytes. It closes the open unit, then is refused or opens the next.
abbrev pub unit_step : List ℕ → ℕ → UnitRecord → ℕ → ℕ → Step
unit_step s at u units aquifers =
    whole_record s at 31
    (unless (closing_fault units u) u.at
    (unless (unit_fault units aquifers (unit_record s at)) at
    (Ok (Opens (unit_record s at) (at + 31)))))

-- SU: 8 bytes.
abbrev pub soil_step : List ℕ → ℕ → UnitRecord → ℕ → ℕ → Step
soil_step s at u units aquifers =
    whole_record s at 8
    (unless (soil_fault units aquifers u (bits8 s (at + 2)) (bits8 s (at + 3)) (bits32 s (at + 4))) at
    (Ok (Grows (with_soil u (bits8 s (at + 2)) (bits8 s (at + 3)) (bits32 s (at + 4))) (at + 8))))

-- PR and PD: 4 bytes.
abbrev pub rain_step : Measure → List ℕ → ℕ → UnitRecord → ℕ → ℕ → Step
rain_step m s at u units aquifers =
    whole_record s at 4
    (unless (rain_fault units aquifers u m (bits16 s (at + 2))) at
    (Ok (Grows (with_year u (pos (rain_of u.hectares u.weighted (rain_at m s at)))) (at + 4))))

-- AF: 34 bytes.
abbrev pub gauge_step : List ℕ → ℕ → UnitRecord → ℕ → ℕ → Step
gauge_step s at u units aquifers =
    whole_record s at 34
    (unless (gauge_fault units aquifers u (gauge_outside_at s at)) at
    (Ok (Grows (with_year u (gauge_of s at)) (at + 34))))

-- AC: 22 bytes. It closes the open unit too.
abbrev pub aquifer_step : List ℕ → ℕ → UnitRecord → ℕ → ℕ → Step
aquifer_step s at u units aquifers =
    whole_record s at 22
    (unless (closing_fault units u) u.at
    (unless (aquifer_fault aquifers (aquifer_record s at)) at
    (Ok (Adds (aquifer_record s at) (at + 22)))))

-- 2 unknown mark. A call mark ends the description even if its body is short.
abbrev pub marked : Option Mark → List ℕ → ℕ → UnitRecord → ℕ → ℕ → Step
marked (Some Un) s at u units aquifers = unit_step s at u units aquifers
marked (Some Su) s at u units aquifers = soil_step s at u units aquifers
marked (Some Pr) s at u units aquifers = rain_step Millimetres s at u units aquifers
marked (Some Pd) s at u units aquifers = rain_step Tenths s at u units aquifers
marked (Some Af) s at u units aquifers = gauge_step s at u units aquifers
marked (Some Ac) s at u units aquifers = aquifer_step s at u units aquifers
marked (Some Call) s at u units aquifers = Ok Ends
marked None s at u units aquifers = failed_step UnknownMark at

-- What stands at an offset does to a description with so many units, the last of them open with these counts and sums, and so many
-- aquifers: nothing left ends it, and a lone last byte is 1.
unfoldable pub next : List ℕ → ℕ → UnitRecord → ℕ → ℕ → Step
next s at u units aquifers =
    cond (eqb (length s - at) 0) (Ok Ends)
    (cond (eqb (length s - at) 1) (failed_step Short at)
    (marked (mark_of (bits8 s at) (bits8 s (at + 1))) s at u units aquifers))
