-- The state of a book in which four balances are kept, and how many of many calls on it are counted: all of them, since that state is sound and
-- has the four names. How many windows a record is given. Assumes nothing.
use Rattle.std.specs.Prelude.{◌≡◌, ℕ, zero, suc, ◌+◌, ◌-◌, ◌%◌, ◌^◌, ◌<◌, ◌≤◌, List, [], ◌∷◌, set, replicate, Ok, Err}
use Rattle.std.specs.Borrow.{MutBor}
use Rattle.model.specs.Answers.{Answer}
use Rattle.model.specs.declared.Call.TheVariants.{Cancel}
use Rattle.register.specs.Calls.{call_reply}
use Rattle.calls.specs.Running.{ran}
use Rattle.planning.specs.declared.Name.{Name}
use Rattle.planning.specs.declared.State.{State}
use Rattle.planning.specs.Names.{name_length}
use Rattle.planning.specs.Calls.{with_current, keep_reply, back_reply, opened_state}
use Rattle.requests.specs.Watched.{watched_reply}
use Rattle.requests.specs.Requests.{Request, ask, keep, back, watch, Asking, ends, fails, asks}
use Rattle.replay.specs.Page.{record_reply}

-- The names in turn: 1, 2, 3 and 4 in the first byte, and 0 in the others.
abbrev pub name_in_turn : ℕ → Name
name_in_turn i = record { bytes = set (replicate name_length 0) 0 (i % 4 + 1) }

-- 1 for an accepted answer, 0 for a refused one.
abbrev pub accepted : Answer → ℕ
accepted (Ok u) = 1
accepted (Err n) = 0

-- The state of a book after its calls; of a refused description the fresh one.
abbrev pub run_on : List ℕ → Answer → ℕ → State → State
run_on book (Ok u) place s = with_current s (ran book place s.balance).balance
run_on book (Err n) place s = s

abbrev pub after_calls : List ℕ → State
after_calls book = run_on book (opened_state book).answer (opened_state book).place (opened_state book).state

-- A call in its turn: the state after it, and 1 if it is counted.
pub record Turn : Type 0 where
  pub next : State
  pub counts : ℕ

abbrev pub keep_turn : State → ℕ → Turn
keep_turn s i = record { next = (keep_reply s (name_in_turn i)).state; counts = accepted (keep_reply s (name_in_turn i)).answer }

abbrev pub back_turn : State → ℕ → Turn
back_turn s i = record { next = (back_reply s (name_in_turn i)).state; counts = accepted (back_reply s (name_in_turn i)).answer }

-- A cancellation of number 0, counted if it is refused.
abbrev pub ask_turn : State → ℕ → Turn
ask_turn s i =
    record {
      next = with_current s (call_reply s.balance (Cancel 0)).balance;
      counts = 1 - accepted (call_reply s.balance (Cancel 0)).answer;
    }

-- A journal of one record, `CA` with number 0.
abbrev pub cancel_nothing : List ℕ
cancel_nothing = 67 ∷ 65 ∷ 0 ∷ 0 ∷ []

-- The reply to that record, counted as one record is answered.
abbrev pub record_turn : State → ℕ → Turn
record_turn s i = record { next = (record_reply 1 s cancel_nothing 0).state; counts = (record_reply 1 s cancel_nothing 0).count }

-- Wherever a call may return, what it leaves and what it counts are as `turn` says, and it counts at most 1.
pub record ComesTo (post : MutBor State → ℕ → ℕ → MutBor State → Type 0) (turn : State → ℕ → Turn) : Type 0 where
  pub next : (s t : MutBor State) (i counts : ℕ) → i < 2 ^ 64 → post s i counts t → t.now ≡ (turn s.now i).next
  pub counts : (s t : MutBor State) (i counts : ℕ) → i < 2 ^ 64 → post s i counts t → counts ≡ (turn s.now i).counts
  pub one : (s : State) (i : ℕ) → (turn s i).counts ≤ 1

-- The state after so many calls from turn i on, and how many of them are counted.
unfoldable pub states : (State → ℕ → Turn) → ℕ → ℕ → State → State
states f zero i s = s
states f (suc times) i s = states f times (i + 1) (f s i).next

unfoldable pub counted : (State → ℕ → Turn) → ℕ → ℕ → State → ℕ
counted f zero i s = 0
counted f (suc times) i s = (f s i).counts + counted f times (i + 1) (f s i).next

-- The state of a book after its calls with that balance kept under the four names.
abbrev pub filled : List ℕ → State
filled book = states keep_turn 4 0 (after_calls book)

-- How many windows a request is given, and what is asked at an offset: only a moving window is given any.
abbrev pub windows_for : Request → ℕ
windows_for (ask c) = 0
windows_for (keep n) = 0
windows_for (back n) = 0
windows_for (watch w) = (watched_reply w).count

abbrev pub windows_given : Asking → ℕ
windows_given ends = 0
windows_given (fails r) = 0
windows_given (asks r to) = windows_for r
