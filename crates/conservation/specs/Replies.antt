-- What the program and the tally say of each call of a list. Assumes nothing.
use Rattle.std.specs.Prelude.{ℕ, suc, ◌+◌, ◌≡◌, List, [], ◌∷◌, Ok, Err}
use Rattle.model.specs.declared.Title.{Title}
use Rattle.model.specs.declared.Call.{Call}
use Rattle.model.specs.declared.Call.TheVariants.{Grant, Cancel}
use Rattle.model.specs.declared.Balance.{Balance}
use Rattle.model.specs.Answers.{Answer}
use Rattle.register.specs.Calls.{call_reply, after}
use Rattle.book.specs.Reading.{Description}
use Rattle.conservation.specs.Demand3.{Tally, tally_refusal, unless_refused}

-- What is said of a call: the answer, and the title's number, which is 0 where the call is refused.
pub record Said : Type 0 where
  pub answer : Answer
  pub number : ℕ

-- The program's replies to a list of calls, each on the balance that the call before returned.
unfoldable pub replies : Balance → List Call → List Said
replies b [] = []
replies b (c ∷ cs) =
    record { answer = (call_reply b c).answer; number = (call_reply b c).number } ∷ replies (call_reply b c).balance cs

-- An accepted grant has the number after the last; an accepted cancellation the number cancelled.
abbrev pub number_for : Tally → Call → ℕ
number_for t (Grant x) = suc t.last
number_for t (Cancel n) = n

abbrev pub saying : Answer → ℕ → Said
saying (Ok u) n = record { answer = Ok tt; number = n }
saying (Err k) n = record { answer = Err k; number = 0 }

-- What the tally says of a list of calls.
unfoldable pub sayings : Description → Tally → List Call → List Said
sayings d t [] = []
sayings d t (c ∷ cs) =
    saying (tally_refusal d t c) (number_for t c) ∷ sayings d (unless_refused (tally_refusal d t c) t c) cs

-- How many grants of a list were accepted, by the calls and by what was said of each.
abbrev pub grant_counts : Call → Answer → ℕ
grant_counts (Grant x) (Ok u) = 1
grant_counts (Grant x) (Err k) = 0
grant_counts (Cancel n) a = 0

unfoldable pub grants : List Call → List Said → ℕ
grants [] said = 0
grants (c ∷ cs) [] = 0
grants (c ∷ cs) (s ∷ said) = grant_counts c s.answer + grants cs said

-- The numbers after a list of calls on a balance of which so many were given: as many more are given as grants of the list were accepted. A
-- grant that is accepted next tells the number after those, and a cancellation that is accepted next the number that it asks for.
pub record Numbered (given : ℕ) (b : Balance) (calls : List Call) : Type 0 where
  pub last : (after b calls).given ≡ given + grants calls (replies b calls)
  pub next : (x : Title) → (call_reply (after b calls) (Grant x)).answer ≡ Ok tt
      → (call_reply (after b calls) (Grant x)).number ≡ suc (given + grants calls (replies b calls))
  pub asked : (n : ℕ) → (call_reply (after b calls) (Cancel n)).answer ≡ Ok tt → (call_reply (after b calls) (Cancel n)).number ≡ n
