-- What a list of requests comes to, by what they ask alone: "For someone who went back, the list of calls is the one up to
-- the keeping, followed by those after the return." No reply and no balance is among the arguments. Assumes nothing.
use Rattle.std.specs.Prelude.{ℕ, Bool, true, false, cond, not, ◌&&◌, ◌||◌, List, [], ◌∷◌, ◌++◌, leb, length, get_or, Ok, Err}
use Rattle.model.specs.declared.Refusal.TheVariants.{FifthName, NoSuchName}
use Rattle.model.specs.declared.Call.{Call}
use Rattle.model.specs.Answers.{Answer, refuse}
use Rattle.book.specs.Reading.{Description}
use Rattle.conservation.specs.Demand3.{start, tally_refusal, tallied}
use Rattle.conservation.specs.Replies.{Said, number_for, saying}
use Rattle.planning.specs.declared.Name.{Name}
use Rattle.planning.specs.Names.{place_limit, same_name}
use Rattle.window.specs.Refused.{windows_refusal}
use Rattle.requests.specs.Requests.{Request, ask, keep, back, watch}

-- What was asked so far comes to: the list of calls, refused ones included; the names under which something is kept, in the order in which
-- they were first kept; and under each name the list of calls at its last keeping.
pub record Asked : Type 0 where
  pub current : List Call
  pub names : List Name
  pub line : Name → List Call

-- After opening nothing was asked, and nothing is kept.
abbrev pub nothing_asked : Asked
nothing_asked = record { current = []; names = []; line = λ n. [] }

-- The name in place k. Past its end a list of names reads as a name of no bytes.
abbrev pub name_at : List Name → ℕ → Name
name_at names k = get_or names k (record { bytes = [] })

-- A name is one of those under which something is kept.
unfoldable pub among : List Name → Name → Bool
among [] n = false
among (m ∷ ms) n = same_name m n || among ms n

-- Keeping: 22 a fifth name. Going back: 23 no such name.
abbrev pub keep_refused : Asked → Name → Answer
keep_refused a n = refuse FifthName (not (among a.names n) && leb place_limit (length a.names)) (Ok tt)

abbrev pub back_refused : Asked → Name → Answer
back_refused a n = refuse NoSuchName (not (among a.names n)) (Ok tt)

-- An ordinary call goes to the end of the list.
abbrev pub called : Asked → Call → Asked
called a c = record { current = a.current ++ (c ∷ []); names = a.names; line = a.line }

-- Keeping puts the list of calls under the name; a used name is replaced. Nothing else of what is kept changes.
abbrev pub kept_under : Asked → Name → Asked
kept_under a n =
    record {
      current = a.current;
      names = cond (among a.names n) a.names (a.names ++ (n ∷ []));
      line = λ m. cond (same_name m n) a.current (a.line m);
    }

-- Going back makes the list under the name the current one. Nothing of what is kept changes.
abbrev pub returned : Asked → Name → Asked
returned a n = record { current = a.line n; names = a.names; line = a.line }

-- On a refusal nothing changes at all.
abbrev pub unless_refused : Answer → Asked → Asked → Asked
unless_refused (Ok u) new old = new
unless_refused (Err k) new old = old

-- A moving window changes nothing.
abbrev pub asking : Asked → Request → Asked
asking a (ask c) = called a c
asking a (keep n) = unless_refused (keep_refused a n) (kept_under a n) a
asking a (back n) = unless_refused (back_refused a n) (returned a n) a
asking a (watch w) = a

-- After a list of requests.
unfoldable pub history : Asked → List Request → Asked
history a [] = a
history a (r ∷ rs) = history (asking a r) rs

-- What is to be told of a request: of a call what the tally says after the list of calls, of keeping, going back and the moving window the
-- refusal, or accepted with 0 as the number, since no title is concerned.
abbrev pub telling : Description → Asked → Request → Said
telling d a (ask c) = saying (tally_refusal d (tallied d start a.current) c) (number_for (tallied d start a.current) c)
telling d a (keep n) = saying (keep_refused a n) 0
telling d a (back n) = saying (back_refused a n) 0
telling d a (watch w) = saying (windows_refusal w.plots w.years w.width) 0

unfoldable pub tellings : Description → Asked → List Request → List Said
tellings d a [] = []
tellings d a (r ∷ rs) = telling d a r ∷ tellings d (asking a r) rs

-- Ordinary calls as requests, and requests that do not keep under a name.
unfoldable pub calls : List Call → List Request
calls [] = []
calls (c ∷ cs) = ask c ∷ calls cs

unfoldable pub leaves : Name → List Request → Bool
leaves n [] = true
leaves n (ask c ∷ rs) = leaves n rs
leaves n (keep m ∷ rs) = not (same_name m n) && leaves n rs
leaves n (back m ∷ rs) = leaves n rs
leaves n (watch w ∷ rs) = leaves n rs
