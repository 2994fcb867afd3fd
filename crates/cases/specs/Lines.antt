-- The lines that are printed for the printed book, and for its description with other calls. Assumes nothing.
use Rattle.std.specs.Prelude.{ℕ, suc, ◌≤◌, ◌≡◌, refl, List, [], ◌∷◌, ◌++◌, length, Ok}
use Rattle.std.proofs.Common.{sym, ap, ◌∙◌, arith}
use Rattle.laws.specs.Sum.{sum_of}
use Rattle.laws.specs.Gather.{gather, gather_to}
use Rattle.model.specs.declared.Call.{Call}
use Rattle.model.specs.declared.Call.TheVariants.{Grant, Cancel}
use Rattle.model.specs.declared.Balance.{Balance}
use Rattle.model.specs.View.{view_of}
use Rattle.river.specs.Flow.{flow}
use Rattle.river.specs.Reserve.{committed_to, committed}
use Rattle.book.specs.declared.Opened.{Opened}
use Rattle.book.specs.Reading.{opened}
use Rattle.record.specs.Calls.{calls_of, ending_of}
use Rattle.register.specs.declared.Reply.{Reply}
use Rattle.register.specs.Calls.{call_reply, after}
use Rattle.text.specs.Text.{ascii, decimal_below, decimal, signed}
use Rattle.report.specs.Lines.{unit_line, aquifer_line, call_given, call_cancelled, call_refused}
use Rattle.listing.specs.Listing.{lines_of, table_text, call_text, call_lines, ran_text, run_text, printed}
use Rattle.listing.proofs.Tables.{table_is, printed_accepted}
use Rattle.cases.specs.Printed.{printed_description, printed_calls, printed_book, returning_calls, returning_book, released_calls, released_book}
use Rattle.cases.specs.Balances.{first_title, second_title, third_title, fourth_title, the_calls, printed_balance, first_balance, last_balance, printed_opens, calls_are, ending_is, first_reply, second_reply, third_reply, fourth_reply, last_sound}
use Rattle.cases.specs.Returning.{town_title, more_title, use_title, returning_asked, released_asked, used_balance, released_balance, returning_opens, returning_asks, returning_ends, released_opens, released_asks, released_ends, town_reply, more_reply, use_reply, needed_reply, released_reply, used_sound, released_sound}

-- Calls, the first of them at place k, that print a text over a balance and leave another.
pub record Runs (k : ℕ) (b : Balance) (cs : List Call) (text : List ℕ) (new : Balance) : Type 0 where
  pub lines : call_lines k b cs ≡ text
  pub leave : after b cs ≡ new

pub runs_none : {k : ℕ} {b : Balance} → Runs k b [] [] b
unfolding call_lines after
runs_none = record { lines = refl; leave = refl }

-- One call more, by its reply.
pub runs_more : {k : ℕ} {b new : Balance} {cs : List Call} {r : Reply} {text : List ℕ} (c : Call) → call_reply b c ≡ r → Runs (suc k) r.balance cs text new
    → Runs k b (c ∷ cs) (call_text k c r.answer r.number ++ text) new
unfolding call_lines after
runs_more {k} {b} {new} {cs} {r} c e s =
    record {
      lines =
          ap (λ (x : Reply). call_text k c x.answer x.number ++ call_lines (suc k) x.balance cs) e
          ∙ ap (λ (l : List ℕ). call_text k c r.answer r.number ++ l) s.lines;
      leave = ap (λ (x : Reply). after x.balance cs) e ∙ s.leave;
    }

-- The balance after call 1.
pub after_first : after printed_balance (Grant first_title ∷ []) ≡ first_balance
after_first = (runs_more {k = 1} (Grant first_title) first_reply runs_none).leave

-- What is printed for a book that is accepted: the lines of its calls, then the table of the balance that they leave.
pub book_printed : {place : ℕ} {b : Balance} (s : List ℕ) (cs : List Call) (text : List ℕ) (new : Balance) → length s ≤ 65536
    → opened s ≡ record { answer = Ok tt; place = place; balance = b } → calls_of s place ≡ cs → ending_of s place ≡ Ok tt
    → Runs 1 b cs text new → printed s ≡ text ++ table_text (view_of new)
book_printed {place} {b} s cs text new h opens asks ends ran =
    sym (printed_accepted s h (ap (λ (o : Opened). o.answer) opens))
    ∙ ap (λ (o : Opened). run_text s o.place o.balance) opens
    ∙ (λ i. call_lines 1 b (asks i) ++ ran_text (ends i) (after b (asks i)))
    ∙ (λ i. ran.lines i ++ ran_text (Ok tt) (ran.leave i))

-- The lines of the calls.
abbrev pub calls_text : List ℕ
calls_text = ascii "call 1 given 1\ncall 2 refused 17\ncall 3 refused 17\ncall 4 given 2\n"

runs : Runs 1 printed_balance the_calls calls_text last_balance
unfolding call_given call_refused decimal decimal_below
runs =
    runs_more (Grant first_title) first_reply
    (runs_more (Grant second_title) second_reply
    (runs_more (Grant third_title) third_reply
    (runs_more (Grant fourth_title) fourth_reply
    runs_none)))

-- The lines of the table after them.
abbrev pub figures_text : List ℕ
figures_text = ascii "unit 1 10080 4395 4395 5685\nunit 2 1540 671 671 869\nunit 3 8760 1000 934 7760\naquifer 1 2000 0\n"

table_lines : table_text (view_of last_balance) ≡ figures_text
unfolding last_balance lines_of flow gather gather_to sum_of committed committed_to unit_line aquifer_line signed decimal decimal_below
table_lines = sym (table_is (view_of last_balance) last_sound)

short : length printed_book ≤ 65536
unfolding printed_book printed_description printed_calls
short = omega arith

-- All that is printed.
pub printed_is : printed printed_book ≡ calls_text ++ figures_text
printed_is =
    book_printed printed_book the_calls calls_text last_balance short printed_opens calls_are ending_is runs
    ∙ ap (λ (l : List ℕ). calls_text ++ l) table_lines

-- The same of the book whose well water comes back.
abbrev pub returning_text : List ℕ
returning_text = ascii "call 1 given 1\ncall 2 refused 17\ncall 3 given 2\ncall 4 refused 20\n"

returning_runs : Runs 1 printed_balance returning_asked returning_text used_balance
unfolding call_given call_refused decimal decimal_below
returning_runs =
    runs_more (Grant town_title) town_reply
    (runs_more (Grant more_title) more_reply
    (runs_more (Grant use_title) use_reply
    (runs_more (Cancel 1) needed_reply
    runs_none)))

abbrev pub returning_figures : List ℕ
returning_figures = ascii "unit 1 10080 3428 3428 6652\nunit 2 139 48 1986 91\nunit 3 8759 1000 524 7759\naquifer 1 2000 0\n"

returning_lines : table_text (view_of used_balance) ≡ returning_figures
unfolding used_balance lines_of flow gather gather_to sum_of committed committed_to unit_line aquifer_line signed decimal decimal_below
returning_lines = sym (table_is (view_of used_balance) used_sound)

returning_short : length returning_book ≤ 65536
unfolding returning_book printed_description returning_calls
returning_short = omega arith

pub returning_printed : printed returning_book ≡ returning_text ++ returning_figures
returning_printed =
    book_printed returning_book returning_asked returning_text used_balance returning_short returning_opens returning_asks returning_ends returning_runs
    ∙ ap (λ (l : List ℕ). returning_text ++ l) returning_lines

-- The same of the book whose title is cancelled.
abbrev pub released_text : List ℕ
released_text = ascii "call 1 given 1\ncall 2 cancelled 1\n"

released_runs : Runs 1 printed_balance released_asked released_text released_balance
unfolding call_given call_cancelled decimal decimal_below
released_runs = runs_more (Grant town_title) town_reply (runs_more (Cancel 1) released_reply runs_none)

abbrev pub released_figures : List ℕ
released_figures = ascii "unit 1 10080 3063 3063 7017\nunit 2 1540 468 468 1072\nunit 3 10160 1000 469 9160\naquifer 1 2000 200\n"

released_lines : table_text (view_of released_balance) ≡ released_figures
unfolding released_balance lines_of flow gather gather_to sum_of committed committed_to unit_line aquifer_line signed decimal decimal_below
released_lines = sym (table_is (view_of released_balance) released_sound)

released_short : length released_book ≤ 65536
unfolding released_book printed_description released_calls
released_short = omega arith

pub released_printed : printed released_book ≡ released_text ++ released_figures
released_printed =
    book_printed released_book released_asked released_text released_balance released_short released_opens released_asks released_ends released_runs
    ∙ ap (λ (l : List ℕ). released_text ++ l) released_lines
