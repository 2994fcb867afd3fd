-- What the program holds and tells after a list of requests, and what it is to hold. Assumes nothing.
use Rattle.std.specs.Prelude.{ℕ, ◌<◌, List, [], ◌∷◌, length}
use Rattle.laws.specs.Table.{table}
use Rattle.model.specs.declared.Balance.{Balance}
use Rattle.register.specs.Calls.{call_reply, after}
use Rattle.book.specs.Reading.{Description}
use Rattle.conservation.specs.Demand3.{start, tallied, reported, Demand3}
use Rattle.conservation.specs.Replies.{Said}
use Rattle.planning.specs.declared.Name.{Name}
use Rattle.planning.specs.declared.Kept.{Kept}
use Rattle.planning.specs.declared.State.{State}
use Rattle.planning.specs.Names.{place_limit}
use Rattle.planning.specs.State.{empty_kept, balance_at}
use Rattle.planning.specs.Calls.{keep_reply, back_reply}
use Rattle.requests.specs.Watched.{watched_reply}
use Rattle.requests.specs.Requests.{Request, ask, keep, back, watch, state_after}
use Rattle.history.specs.Asked.{Asked, name_at}

-- What the program tells of a request: the answer and the number of its reply.
abbrev pub told : State → Request → Said
told s (ask c) = record { answer = (call_reply s.balance c).answer; number = (call_reply s.balance c).number }
told s (keep n) = record { answer = (keep_reply s n).answer; number = (keep_reply s n).number }
told s (back n) = record { answer = (back_reply s n).answer; number = (back_reply s n).number }
told s (watch w) = record { answer = (watched_reply w).answer; number = (watched_reply w).number }

unfoldable pub all_told : State → List Request → List Said
all_told s [] = []
all_told s (r ∷ rs) = told s r ∷ all_told (state_after s r) rs

-- What is kept under a name, of a book opened as balance b: the balance after the list of its keeping.
abbrev pub kept_as : Balance → Asked → Name → Kept
kept_as b a n = record { name = n; balance = after b (a.line n) }

-- The state that what was asked describes, of a book opened as balance b: the current balance is the one after the list of calls, and under
-- each name, in order, stands the balance after the list of its keeping. The other places are empty.
abbrev pub described : Balance → Asked → State
described b a =
    record {
      balance = after b a.current;
      kept = table place_limit empty_kept (length a.names) (λ k. kept_as b a (name_at a.names k));
      count = length a.names;
    }

-- Demand 3 of a state: of the current balance and of each that is kept, with the tally of its own list of calls.
pub record Conserved (d : Description) (a : Asked) (s : State) : Type 0 where
  pub current : Demand3 d (tallied d start a.current) (reported s.balance)
  pub kept : (k : ℕ) → k < s.count → Demand3 d (tallied d start (a.line (name_at a.names k))) (reported (balance_at s.kept k))
