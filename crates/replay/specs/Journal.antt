-- All that is printed for a journal. Assumes nothing.
use Rattle.std.specs.Prelude.{is_some, ℕ, ◌+◌, Bool, true, false, cond, ◌&&◌, List, [], ◌++◌, eqb, ltb, length, take, Ok, Err, Option}
use Rattle.model.specs.declared.Refusal.TheVariants.{TooLong, UnknownMark}
use Rattle.model.specs.Answers.{Answer, number}
use Rattle.model.specs.Fresh.{fresh_balance}
use Rattle.model.specs.View.{view_of}
use Rattle.planning.specs.declared.State.{State}
use Rattle.planning.specs.declared.Opened.{Opened}
use Rattle.planning.specs.State.{nothing_kept}
use Rattle.planning.specs.Calls.{opened_state}
use Rattle.requests.specs.declared.OwnMark.{OwnMark}
use Rattle.requests.specs.Records.{own_at}
use Rattle.report.specs.Lines.{refused_line}
use Rattle.listing.specs.Listing.{table_text}
use Rattle.replay.specs.Page.{Page, page_of}

-- The mark is one of a journal alone.
abbrev pub is_own : Option OwnMark → Bool
is_own m = is_some m

-- The refusal of an unknown mark.
abbrev pub unknown : Answer → Bool
unknown (Ok u) = false
unknown (Err r) = eqb (number r) (number UnknownMark)

-- A mark of a journal alone stands where the book reader met an unknown one.
abbrev pub ends_there : List ℕ → Answer → ℕ → Bool
ends_there s a place = unknown a && is_own (own_at s place)

-- The book of a journal: the journal itself, or what stands before the mark of a journal alone that ends its description.
abbrev pub book_of : List ℕ → List ℕ
book_of s = cond (ends_there s (opened_state s).answer (opened_state s).place) (take (opened_state s).place s) s

-- Opening: the description is read and refused as that of a book, and a mark of a journal alone ends it as a call mark does.
abbrev pub journal_opened : List ℕ → Opened
journal_opened s = opened_state (book_of s)

-- 21 a journal over 1,048,576 bytes.
abbrev pub journal_limit : ℕ
journal_limit = 1048576

-- How a journal begins: an accepted description prints nothing yet, a refused one `refused N at P`, and nothing follows.
abbrev pub begun_by : Answer → ℕ → State → Page
begun_by (Ok u) place st = record { text = []; state = st; next = place; count = 0; more = true }
begun_by (Err r) place st = record { text = refused_line (number r) place; state = st; next = place; count = 0; more = false }

-- One that is too long is printed as a refused description, place 1048576, and leaves the fresh state.
abbrev pub begun : List ℕ → Page
begun s =
    cond (ltb journal_limit (length s)) (begun_by (Err TooLong) journal_limit (nothing_kept fresh_balance))
    (begun_by (journal_opened s).answer (journal_opened s).place (journal_opened s).state)

-- All records of a journal whose description ends at an offset. Each takes bytes, so there are no more records than bytes.
abbrev pub all_replies : List ℕ → ℕ → State → Page
all_replies s at st = page_of (length s + 1) 1 st s at

-- The replies come first, with the line of a record that failed, then the table of the current balance.
abbrev pub replies_text : Page → List ℕ
replies_text p = p.text ++ table_text (view_of p.state.balance)

-- An accepted description prints its replies and its table, a refused one only `refused N at P`.
abbrev pub opened_text : List ℕ → Answer → ℕ → State → List ℕ
opened_text s (Ok u) place st = replies_text (all_replies s place st)
opened_text s (Err r) place st = refused_line (number r) place

-- A journal over 1,048,576 bytes is refused with 21, place 1048576, printed as a refused description. Otherwise what its opening gives.
abbrev pub journal_text : List ℕ → List ℕ
journal_text s =
    cond (ltb journal_limit (length s)) (refused_line 21 journal_limit)
    (opened_text s (journal_opened s).answer (journal_opened s).place (journal_opened s).state)
