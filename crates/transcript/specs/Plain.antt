-- Journals with no record of their own. Assumes nothing.
use Rattle.std.specs.Prelude.{ℕ, ◌≡◌, Bool, false, List, Ok, Err}
use Rattle.record.specs.Calls.{Ending, ending_of}
use Rattle.planning.specs.Calls.{opened_state}
use Rattle.requests.specs.Records.{own_at}
use Rattle.replay.specs.Journal.{is_own, ends_there}

-- A mark of a journal alone stands where the calls of a book fail.
abbrev pub fails_at_own : List ℕ → Ending → Bool
fails_at_own s (Ok u) = false
fails_at_own s (Err f) = is_own (own_at s f.place)

-- A journal with no record of its own: no mark of a journal alone ends its description, nor, where that is accepted, the calls of a book
-- after it.
pub record Plain (s : List ℕ) : Type 0 where
  pub description : ends_there s (opened_state s).answer (opened_state s).place ≡ false
  pub records : (opened_state s).answer ≡ Ok tt → fails_at_own s (ending_of s (opened_state s).place) ≡ false
