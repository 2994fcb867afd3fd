-- A journal that is plain and one that is not: the printed book, and the same book with a keeping after its calls. Assumes nothing.
use Rattle.std.specs.Prelude.{◌∷◌, Ok}
use Prim.Native.Nat.{ℕ, ◌≤◌}
use mathlib.Core.Path.{◌≡◌, refl, sym, ap, ◌∙◌}
use mathlib.Core.Bool.{true}
use mathlib.Core.List.{List, ◌++◌}
use lib.ListN.{length}
use native.Mathlib.Omega.{arith}
use Rattle.std.proofs.lemmas.Bool.{true≢false}
use Rattle.laws.specs.Sum.{sum_of}
use Rattle.laws.specs.Gather.{gather, gather_to}
use Rattle.laws.specs.Table.{table, tabulate}
use Rattle.model.specs.declared.Refusal.TheVariants.{UnknownMark}
use Rattle.model.specs.Answers.{first_from}
use Rattle.runoff.specs.Soil.{coefficient, coefficients}
use Rattle.runoff.specs.Year.{rain_year}
use Rattle.runoff.specs.Mean.{rounded}
use Rattle.runoff.specs.Record.{area_of, weighted_of, years_sum}
use Rattle.river.specs.Flow.{flow}
use Rattle.record.specs.Entries.{entry_at}
use Rattle.record.specs.Calls.{Ending, failed, call_at, ending_from, ending_of}
use Rattle.book.specs.declared.Opened.{Opened}
use Rattle.book.specs.Reading.{reading_from, opened}
use Rattle.requests.specs.Records.{own_at}
use Rattle.text.specs.Text.{ascii}
use Rattle.replay.specs.Journal.{is_own, ends_there, journal_text}
use Rattle.cases.specs.Printed.{printed_description, printed_calls, printed_book}
use Rattle.cases.specs.Balances.{printed_balance, printed_opens, ending_is}
use Rattle.cases.specs.Cases.{cases_hold}
use Rattle.transcript.specs.Plain.{fails_at_own, Plain}
use Rattle.transcript.proofs.Pages.{prints_as_balance}

-- The printed book is plain: it is accepted, and its calls end with the book.
pub printed_plain : Plain printed_book
printed_plain =
    record {
      description = ap (λ (o : Opened). ends_there printed_book o.answer o.place) printed_opens;
      records = λ h.
          ap (λ (o : Opened). fails_at_own printed_book (ending_of printed_book o.place)) printed_opens
          ∙ ap (λ (e : Ending). fails_at_own printed_book e) ending_is;
    }

printed_short : length printed_book ≤ 65536
unfolding printed_book printed_description printed_calls
printed_short = omega arith

-- So as a journal it prints what it prints as a book.
pub printed_journal :
    journal_text printed_book
    ≡ ascii
    "call 1 given 1\ncall 2 refused 17\ncall 3 refused 17\ncall 4 given 2\nunit 1 10080 4395 4395 5685\nunit 2 1540 671 671 869\nunit 3 8760 1000 934 7760\naquifer 1 2000 0\n"
printed_journal = prints_as_balance printed_book printed_short printed_plain ∙ cases_hold.h

-- The printed book with a record after its calls that keeps its balance: KP and a name of eight bytes.
unfoldable pub kept_book : List ℕ
kept_book = printed_book ++ (75 ∷ 80 ∷ ascii "baseline")

-- It opens what the printed book opens, and its calls end where KP stands.
kept_opens : opened kept_book ≡ record { answer = Ok tt; place = 379; balance = printed_balance }
unfolding kept_book printed_book printed_description printed_calls printed_balance reading_from entry_at table tabulate first_from flow gather gather_to sum_of years_sum area_of weighted_of rain_year coefficient coefficients rounded
kept_opens = refl

kept_ends : ending_of kept_book 379 ≡ failed UnknownMark 410
unfolding kept_book printed_book printed_description printed_calls ending_from call_at
kept_ends = refl

kept_own : is_own (own_at kept_book 410) ≡ true
unfolding kept_book printed_book printed_description printed_calls
kept_own = refl

-- So it is not plain.
pub kept_not_plain : Plain kept_book → ⊥
kept_not_plain p =
    true≢false
    (sym kept_own
    ∙ sym (ap (λ (e : Ending). fails_at_own kept_book e) kept_ends)
    ∙ sym (ap (λ (o : Opened). fails_at_own kept_book (ending_of kept_book o.place)) kept_opens)
    ∙ p.records (ap (λ (o : Opened). o.answer) kept_opens))
