-- Calls, keepings, returns and moving windows as one, and the state after a list of them. Assumes nothing.
use Rattle.std.specs.Prelude.{ℕ, zero, suc, ◌+◌, List, [], ◌∷◌, length}
use Rattle.model.specs.declared.Refusal.{Refusal}
use Rattle.model.specs.declared.Call.{Call}
use Rattle.register.specs.Calls.{call_reply}
use Rattle.planning.specs.declared.Name.{Name}
use Rattle.planning.specs.declared.State.{State}
use Rattle.planning.specs.Calls.{with_current, keep_reply, back_reply}
use Rattle.requests.specs.declared.RecordAt.{RecordAt}
use Rattle.requests.specs.declared.RecordAt.TheVariants.{End, Fails, Calls, Keeps, Returns, Watches}
use Rattle.requests.specs.Watched.{Watched, watched_at}
use Rattle.requests.specs.Records.{name_at, record_at}

-- A request: an ordinary call, keeping under a name, going back to a name, or a moving window.
pub data Request : Type 0 where
  ask : Call → Request
  keep : Name → Request
  back : Name → Request
  watch : Watched → Request

-- The program's state after a request. An ordinary call takes the current balance alone, and the balance that it returns is the current one. The
-- moving window takes no balance and leaves the state as it is.
abbrev pub state_after : State → Request → State
state_after s (ask c) = with_current s (call_reply s.balance c).balance
state_after s (keep n) = (keep_reply s n).state
state_after s (back n) = (back_reply s n).state
state_after s (watch w) = s

-- The program's state after a list of requests, each on the state that the one before returned.
unfoldable pub states_after : State → List Request → State
states_after s [] = s
states_after s (r ∷ rs) = states_after (state_after s r) rs

-- What a journal asks at an offset after its description: nothing more, a record that is short or unknown, or a request and the offset of
-- the next record.
pub data Asking : Type 0 where
  ends : Asking
  fails : Refusal → Asking
  asks : Request → ℕ → Asking

abbrev pub asking : RecordAt → List ℕ → ℕ → Asking
asking End s at = ends
asking (Fails r) s at = fails r
asking (Calls c to) s at = asks (ask c) to
asking (Keeps to) s at = asks (keep (name_at s (at + 2))) to
asking (Returns to) s at = asks (back (name_at s (at + 2))) to
asking (Watches to) s at = asks (watch (watched_at s at)) to

abbrev pub request_at : List ℕ → ℕ → Asking
request_at s at = asking (record_at s at) s at

-- The requests that stand from an offset on, in order, of at most so many records.
unfoldable pub requests_from : ℕ → List ℕ → ℕ → List Request
requests_from zero s at = []
requests_from (suc records) s at = elim (request_at s at) [ ends ↦ [] | fails n ↦ [] | asks r to ↦ r ∷ requests_from records s to ]

-- The requests of a journal whose description ends at an offset. Each record takes bytes, so there are no more records than bytes.
abbrev pub requests_of : List ℕ → ℕ → List Request
requests_of s at = requests_from (length s + 1) s at
