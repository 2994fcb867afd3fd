-- What stands and what was printed after all records of a journal, by what they asked alone. Assumes nothing.
use Rattle.std.specs.Prelude.{ℕ, zero, suc, ◌+◌, ◌≡◌, true, List, [], ◌∷◌, ◌++◌, length}
use Rattle.model.specs.Answers.{number}
use Rattle.model.specs.View.{view_of}
use Rattle.register.specs.Calls.{after}
use Rattle.book.specs.Reading.{Description, read, reading, balance_of}
use Rattle.conservation.specs.Replies.{Said}
use Rattle.planning.specs.State.{sound_state}
use Rattle.requests.specs.Requests.{Request, ends, fails, asks, request_at, requests_of}
use Rattle.history.specs.Asked.{Asked, nothing_asked, history, tellings}
use Rattle.history.specs.Claim.{described, Conserved}
use Rattle.report.specs.Lines.{refused_line}
use Rattle.listing.specs.Listing.{table_text}
use Rattle.replies.specs.Reply.{request_line}
use Rattle.replay.specs.Page.{Page}
use Rattle.replay.specs.Journal.{book_of, journal_opened, all_replies, journal_text}

-- The requests of a journal, and what they come to by what they ask alone.
abbrev pub requests_in : List ℕ → List Request
requests_in s = requests_of s (journal_opened s).place

abbrev pub asked_in : List ℕ → Asked
asked_in s = history nothing_asked (requests_in s)

-- What all records of a journal give: the text of their replies, and the state after them.
abbrev pub replies_in : List ℕ → Page
replies_in s = all_replies s (journal_opened s).place (journal_opened s).state

-- The lines of requests by what is told of them, the first at place k, one after the other.
unfoldable pub told_lines : ℕ → List Request → List Said → List ℕ
told_lines k [] said = []
told_lines k (r ∷ rs) [] = []
told_lines k (r ∷ rs) (x ∷ said) = request_line k r x.answer x.number ++ told_lines (suc k) rs said

-- The line of the record that failed, where one did, of at most so many records from an offset on.
unfoldable pub failure_from : ℕ → List ℕ → ℕ → List ℕ
failure_from zero s at = []
failure_from (suc records) s at =
    elim (request_at s at) [ ends ↦ [] | fails n ↦ refused_line (number n) at | asks r to ↦ failure_from records s to ]

abbrev pub failure_in : List ℕ → List ℕ
failure_in s = failure_from (length s + 1) s (journal_opened s).place

-- A description was read, and after all records the state, the replies and what is printed are those of what was asked.
pub record Followed (s : List ℕ) : Type 0 where
  -- The description that was read from the journal's book, and where it ends: there the records begin.
  pub description : Description
  pub place : ℕ
  pub reads : reading (book_of s) ≡ read description place
  pub begins : (journal_opened s).place ≡ place
  -- The state is the one that what was asked describes, it is sound, and demand 3 holds of its current balance and of each that is kept.
  pub state : (replies_in s).state ≡ described (balance_of description) (asked_in s)
  pub sound : sound_state (replies_in s).state ≡ true
  pub conserved : Conserved description (asked_in s) (replies_in s).state
  -- The replies are, line by line, what is to be told of each request, and then the line of a record that failed.
  pub replies : (replies_in s).text
      ≡ told_lines 1 (requests_in s) (tellings description nothing_asked (requests_in s)) ++ failure_in s
  -- The replies are printed, and then the table of the balance after the list of calls.
  pub printed : journal_text s
      ≡ (replies_in s).text ++ table_text (view_of (after (balance_of description) (asked_in s).current))
