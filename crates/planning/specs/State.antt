-- A planning state, and the test for 0 of it. Assumes nothing.
use Rattle.std.specs.Prelude.{ℕ, ◌≡◌, Bool, ◌&&◌, List, [], leb, length, get_or, replicate}
use Rattle.laws.specs.Sum.{every}
use Rattle.model.specs.declared.Balance.{Balance}
use Rattle.model.specs.Fresh.{fresh_balance}
use Rattle.model.specs.View.{view_of}
use Rattle.basin.specs.Sound.{sound}
use Rattle.planning.specs.declared.Name.{Name}
use Rattle.planning.specs.declared.Kept.{Kept}
use Rattle.planning.specs.declared.State.{State}
use Rattle.planning.specs.Names.{place_limit, name_length, distinct}

-- A place that is not in use holds the fresh balance under a name of zeros.
abbrev pub empty_name : Name
empty_name = record { bytes = replicate name_length 0 }

abbrev pub empty_kept : Kept
empty_kept = record { name = empty_name; balance = fresh_balance }

-- The state of a balance with nothing kept.
abbrev pub nothing_kept : Balance → State
nothing_kept b = record { balance = b; kept = replicate place_limit empty_kept; count = 0 }

-- What a list of places reads past its end: a name of no bytes, and a balance whose arrays have no places.
abbrev pub no_balance : Balance
no_balance = record { units = []; unit_count = 0; aquifers = []; aquifer_count = 0; titles = []; given = 0 }

abbrev pub no_kept : Kept
no_kept = record { name = record { bytes = [] }; balance = no_balance }

-- The name in place k, and the balance that is kept there.
abbrev pub name_at : List Kept → ℕ → Name
name_at kept k = (get_or kept k no_kept).name

abbrev pub balance_at : List Kept → ℕ → Balance
balance_at kept k = (get_or kept k no_kept).balance

-- Each of the first n balances is sound.
unfoldable pub kept_sound : List Kept → ℕ → Bool
kept_sound kept n = every n (λ k. sound (view_of (balance_at kept k)))

-- A faulty current balance, more than four kept, a faulty kept balance or a name kept twice falls under 0.
unfoldable pub sound_state : State → Bool
sound_state s =
    sound (view_of s.balance) && (leb s.count place_limit && (kept_sound s.kept s.count && distinct (name_at s.kept) s.count))

-- The array of a state has its four places, as every state of the program has.
pub record Sized (s : State) : Type 0 where
  pub kept : length s.kept ≡ place_limit
