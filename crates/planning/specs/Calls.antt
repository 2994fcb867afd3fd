-- Keeping, going back, and opening a book as a state. Assumes nothing.
use Rattle.std.specs.Prelude.{ℕ, ◌+◌, Bool, not, ◌&&◌, List, leb, set, Option, Some, None, Ok, Err}
use Rattle.model.specs.declared.Refusal.TheVariants.{Unsound, FifthName, NoSuchName}
use Rattle.model.specs.declared.Balance.{Balance}
use Rattle.model.specs.Answers.{Answer, refuse}
use Rattle.book.specs.Reading.{opened}
use Rattle.planning.specs.declared.Name.{Name}
use Rattle.planning.specs.declared.Kept.{Kept}
use Rattle.planning.specs.declared.State.{State}
use Rattle.planning.specs.declared.Reply.{Reply}
use Rattle.planning.specs.declared.Opened.{Opened}
use Rattle.planning.specs.Names.{place_limit, place_of, is_found}
use Rattle.planning.specs.State.{nothing_kept, name_at, balance_at, sound_state}

-- The place that has a name among those in use, and whether something is kept under it.
abbrev pub place_in : State → Name → Option ℕ
place_in s n = place_of (name_at s.kept) s.count n

abbrev pub is_kept : State → Name → Bool
is_kept s n = is_found (place_in s n)

-- Both calls first give 0 if the state is not sound. Keeping: 22 a fifth name. Going back: 23 no such name.
abbrev pub after_test : State → Answer → Answer
after_test s r = refuse Unsound (not (sound_state s)) r

abbrev pub keep_refusal : State → Name → Answer
keep_refusal s n = after_test s (refuse FifthName (not (is_kept s n) && leb place_limit s.count) (Ok tt))

abbrev pub back_refusal : State → Name → Answer
back_refusal s n = after_test s (refuse NoSuchName (not (is_kept s n)) (Ok tt))

-- The state with another current balance; nothing of what is kept changes.
abbrev pub with_current : State → Balance → State
with_current s b = record { balance = b; kept = s.kept; count = s.count }

-- The state with these balances kept, each under its name; the current balance stays.
abbrev pub with_kept : State → List Kept → ℕ → State
with_kept s kept count = record { balance = s.balance; kept = kept; count = count }

-- The balances that are kept, the current one in place k under a name.
abbrev pub kept_under : State → ℕ → Name → List Kept
kept_under s k n = set s.kept k (record { name = n; balance = s.balance })

-- Keeping under a used name replaces the balance in its place, whose name stays; a new name takes the next place.
abbrev pub kept_in : State → Name → Option ℕ → State
kept_in s n (Some k) = with_kept s (kept_under s k (name_at s.kept k)) s.count
kept_in s n None = with_kept s (kept_under s s.count n) (s.count + 1)

abbrev pub keeping : State → Name → State
keeping s n = kept_in s n (place_in s n)

-- Going back makes the kept balance the current one, register included.
abbrev pub returned_to : State → Option ℕ → State
returned_to s (Some k) = with_current s (balance_at s.kept k)
returned_to s None = s

abbrev pub going_back : State → Name → State
going_back s n = returned_to s (place_in s n)

-- An accepted call hands back the new state, a refused one the old. No title is concerned, so the number is 0.
abbrev pub replied : Answer → State → State → Reply
replied (Ok u) old new = record { answer = Ok tt; number = 0; state = new }
replied (Err k) old new = record { answer = (Err k); number = 0; state = old }

abbrev pub keep_reply : State → Name → Reply
keep_reply s n = replied (keep_refusal s n) s (keeping s n)

abbrev pub back_reply : State → Name → Reply
back_reply s n = replied (back_refusal s n) s (going_back s n)

-- Opened a book: the state of its balance with nothing kept and the offset where the description ends, or, refused, a number, its place
-- and the fresh state.
abbrev pub opened_state : List ℕ → Opened
opened_state s = record { answer = (opened s).answer; place = (opened s).place; state = nothing_kept (opened s).balance }
