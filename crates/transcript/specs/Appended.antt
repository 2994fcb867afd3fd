-- Journals to which bytes are appended: where their records end, and what stays. Assumes nothing.
use Rattle.std.specs.Prelude.{ℕ, zero, suc, ◌+◌, ◌≤◌, ◌≡◌, List, ◌++◌, length}
use Rattle.requests.specs.Requests.{ends, fails, asks, request_at, requests_of}
use Rattle.replay.specs.Page.{Page, joined, page_of}
use Rattle.replay.specs.Journal.{journal_opened, journal_limit, replies_text, journal_text}
use Rattle.transcript.specs.Followed.{requests_in, replies_in}

-- Where at most so many records from an offset on end: where nothing is left, or where the record that fails stands.
unfoldable pub end_from : ℕ → List ℕ → ℕ → ℕ
end_from zero s at = at
end_from (suc records) s at = elim (request_at s at) [ ends ↦ at | fails n ↦ at | asks r to ↦ end_from records s to ]

-- Where the records from an offset on end. Each takes bytes, so there are no more records than bytes.
abbrev pub end_of : List ℕ → ℕ → ℕ
end_of s at = end_from (length s + 1) s at

-- Only whole records stand from an offset on: they end where the bytes end.
abbrev pub Whole : List ℕ → ℕ → Type 0
Whole s at = end_of s at ≡ length s

-- The replies to all records of a journal from an offset on, at the places after those of a page and on the state that it left.
abbrev pub going_on : ℕ → Page → List ℕ → ℕ → Page
going_on k p s at = page_of (length s + 1) (k + p.count) p.state s at

-- The replies to what is appended to a journal.
abbrev pub appended_replies : List ℕ → List ℕ → Page
appended_replies s t = going_on 1 (replies_in s) (s ++ t) (length s)

-- What a journal said stays said when bytes are appended to it.
pub record Appended (s t : List ℕ) : Type 0 where
  -- It opens as it did, its requests are the first, in order, and those that the appended bytes ask by themselves follow.
  pub opening : journal_opened (s ++ t) ≡ journal_opened s
  pub requests : requests_in (s ++ t) ≡ requests_in s ++ requests_of t 0
  -- Its replies are the first, and those to what is appended follow, at the next places and on the state that it left.
  pub replies : replies_in (s ++ t) ≡ joined (replies_in s) (appended_replies s t)
  -- Its replies are printed, then those that follow, and then the table after all.
  pub printed : length (s ++ t) ≤ journal_limit → journal_text (s ++ t) ≡ (replies_in s).text ++ replies_text (appended_replies s t)
  -- Where the appended records are whole, so are all.
  pub whole : Whole t 0 → Whole (s ++ t) (journal_opened (s ++ t)).place
