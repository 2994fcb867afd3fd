-- The table of a book, as a dashboard reads it. Assumes nothing.
use Rattle.record.specs.Calls.{Ending}
use Rattle.std.specs.Prelude.{ℕ, Bool, true, false, List, Ok, Err}
use Rattle.model.specs.Answers.{Answer, number}
use Rattle.model.specs.declared.Balance.{Balance}
use Rattle.model.specs.View.{view_of}
use Rattle.basin.specs.Figures.{figures_reply}
use Rattle.book.specs.Reading.{opened}
use Rattle.calls.specs.declared.Ran.{Ran}
use Rattle.calls.specs.Running.{ran}
use Rattle.dashboard.specs.declared.Table.{Table}

-- The figures of a balance, with what is said of the book.
abbrev pub table_of : Bool → ℕ → ℕ → Balance → Table
table_of accepted number place b =
    record {
      accepted = accepted;
      number = number;
      place = place;
      unit_count = b.unit_count;
      aquifer_count = b.aquifer_count;
      units = (figures_reply (view_of b)).units;
      aquifers = (figures_reply (view_of b)).aquifers;
    }

-- The number and place of what failed, 0 if nothing did.
abbrev pub failed_number : Ending → ℕ
failed_number (Ok u) = 0
failed_number (Err f) = number f.refusal

abbrev pub failed_place : Ending → ℕ
failed_place (Ok u) = 0
failed_place (Err f) = f.place

-- The table after the calls: the number and place of the record that failed, 0 if none did.
abbrev pub table_by : Ending → Balance → Table
table_by (Ok u) b = table_of true 0 0 b
table_by (Err f) b = table_of true (number f.refusal) f.place b

abbrev pub table_after : Ran → Table
table_after r = table_by r.ending r.balance

-- A refused description has its number and place, and the figures of the fresh balance, which are all 0.
abbrev pub opened_table : List ℕ → Answer → ℕ → Balance → Table
opened_table s (Ok u) place b = table_after (ran s place b)
opened_table s (Err r) place b = table_of false (number r) place b

abbrev pub book_table : List ℕ → Table
book_table s = opened_table s (opened s).answer (opened s).place (opened s).balance

-- The balance of a book after its calls; of a refused description the fresh one.
abbrev pub balance_by : List ℕ → Answer → ℕ → Balance → Balance
balance_by s (Ok u) place b = (ran s place b).balance
balance_by s (Err n) place b = b

abbrev pub balance_after : List ℕ → Balance
balance_after s = balance_by s (opened s).answer (opened s).place (opened s).balance

-- 1 if the figures of a balance are given, 0 if they are refused.
abbrev pub figures_given : Answer → ℕ
figures_given (Ok u) = 1
figures_given (Err n) = 0

abbrev pub figured : Balance → ℕ
figured b = figures_given (figures_reply (view_of b)).answer
