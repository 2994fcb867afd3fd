-- The records of the calls (document 01, "The book"; document 02 [2]): what stands after the description. Assumes nothing.
use Rattle.std.specs.Prelude.{ℕ, zero, suc, ◌+◌, ◌-◌, cond, List, [], ◌∷◌, eqb, ltb, length, Option, Some, None, Result, Ok, Err}
use Rattle.model.specs.declared.Refusal.{Refusal}
use Rattle.model.specs.declared.Refusal.TheVariants.{Short, UnknownMark}
use Rattle.model.specs.declared.Title.TheVariants.{UnitWithdrawal, AquiferWithdrawal, UnitTransfer, AquiferTransfer, ReturningWithdrawal}
use Rattle.model.specs.declared.Call.{Call}
use Rattle.model.specs.Answers.{Answer}
use Rattle.model.specs.declared.Call.TheVariants.{Grant, Cancel}
use Rattle.record.specs.declared.CallMark.{CallMark}
use Rattle.record.specs.declared.CallMark.TheVariants.{Gu, Ga, Tu, Ta, Gw, Ca}
use Rattle.record.specs.declared.CallAt.{CallAt}
use Rattle.record.specs.declared.CallAt.TheVariants.{End, Fails, Asks}
use Rattle.record.specs.declared.Failure.{Failure}
use Rattle.record.specs.Bytes.{bits8, bits16, bits32}
use Rattle.record.specs.Record.{call_mark}

-- 1 fewer bytes left than the record's mark and body; otherwise the call and the offset of the next record.
abbrev pub whole_call : List ℕ → ℕ → ℕ → Call → CallAt
whole_call s at size c = cond (ltb (length s - at) size) (Fails Short) (Asks c (at + size))

-- How many bytes the record of a call has, mark and body.
abbrev pub size_of : CallMark → ℕ
size_of Gu = 8
size_of Ga = 7
size_of Tu = 8
size_of Ta = 8
size_of Gw = 9
size_of Ca = 4

-- GU (unit, use, volume), GA (aquifer, volume), TU (from unit, to unit, volume), TA (aquifer, unit, volume), GW (aquifer, return unit, use,
-- volume) and CA (title number). Units, aquifers and uses are 8 bits, volumes 32, a title number 16.
abbrev pub call_of : CallMark → List ℕ → ℕ → Call
call_of Gu s at = Grant (UnitWithdrawal (bits8 s (at + 2)) (bits8 s (at + 3)) (bits32 s (at + 4)))
call_of Ga s at = Grant (AquiferWithdrawal (bits8 s (at + 2)) (bits32 s (at + 3)))
call_of Tu s at = Grant (UnitTransfer (bits8 s (at + 2)) (bits8 s (at + 3)) (bits32 s (at + 4)))
call_of Ta s at = Grant (AquiferTransfer (bits8 s (at + 2)) (bits8 s (at + 3)) (bits32 s (at + 4)))
call_of Gw s at = Grant (ReturningWithdrawal (bits8 s (at + 2)) (bits8 s (at + 3)) (bits8 s (at + 4)) (bits32 s (at + 5)))
call_of Ca s at = Cancel (bits16 s (at + 2))

-- 2 unknown mark, which after the first call a description's mark is too.
abbrev pub call_marked : Option CallMark → List ℕ → ℕ → CallAt
call_marked (Some m) s at = whole_call s at (size_of m) (call_of m s at)
call_marked None s at = Fails UnknownMark

-- What stands at an offset after the description: nothing left ends the calls, and a lone last byte is 1.
unfoldable pub call_at : List ℕ → ℕ → CallAt
call_at s at =
    cond (eqb (length s - at) 0) End
    (cond (eqb (length s - at) 1) (Fails Short) (call_marked (call_mark (bits8 s at) (bits8 s (at + 1))) s at))

-- How the calls of a book end: with the book, or with a record that fails at its place.
abbrev pub Ending : Type 0
Ending = Result (Unit {0}) Failure

abbrev pub failed : Refusal → ℕ → Ending
failed r place = Err (record { refusal = r; place = place })

-- An answer with the place of its refusal.
abbrev pub located : Answer → ℕ → Ending
located (Ok u) place = Ok tt
located (Err r) place = failed r place

-- The calls that stand from an offset on, in order, and how they end, of at most so many records.
unfoldable pub calls_from : ℕ → List ℕ → ℕ → List Call
calls_from zero s at = []
calls_from (suc records) s at = elim (call_at s at) [ End ↦ [] | Fails n ↦ [] | Asks c to ↦ c ∷ calls_from records s to ]

unfoldable pub ending_from : ℕ → List ℕ → ℕ → Ending
ending_from zero s at = failed Short at
ending_from (suc records) s at = elim (call_at s at) [ End ↦ Ok tt | Fails n ↦ failed n at | Asks c to ↦ ending_from records s to ]

-- The calls of a book whose description ends at an offset. Each record takes bytes, so there are no more records than bytes.
abbrev pub calls_of : List ℕ → ℕ → List Call
calls_of s at = calls_from (length s + 1) s at

abbrev pub ending_of : List ℕ → ℕ → Ending
ending_of s at = ending_from (length s + 1) s at
