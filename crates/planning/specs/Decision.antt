-- What keeping and going back come to, by the test for 0, the place that has the name, and how many are kept. Assumes nothing.
use Rattle.std.specs.Prelude.{ℕ, ◌+◌, Bool, cond, leb, Option, Some, None, Result, Ok, Err}
use Rattle.model.specs.declared.Refusal.{Refusal}
use Rattle.model.specs.declared.Refusal.TheVariants.{Unsound, FifthName, NoSuchName}
use Rattle.planning.specs.declared.Name.{Name}
use Rattle.planning.specs.declared.State.{State}
use Rattle.planning.specs.declared.Reply.{Reply}
use Rattle.planning.specs.Names.{place_limit}
use Rattle.planning.specs.State.{name_at, balance_at}
use Rattle.planning.specs.Calls.{with_current, with_kept, kept_under, replied}

-- The place that a search for a name gave, or 0.
abbrev pub sought : Bool → Option ℕ → Result (Option ℕ) Refusal
sought sound f = cond sound (Ok f) (Err Unsound)

-- Keeping: 0, then under a used name in its place, then 22 a fifth name, then in the next place.
abbrev pub keep_decision : Bool → Option ℕ → ℕ → Result (Option ℕ) Refusal
keep_decision sound (Some k) count = cond sound (Ok (Some k)) (Err Unsound)
keep_decision sound None count = cond sound (cond (leb place_limit count) (Err FifthName) (Ok None)) (Err Unsound)

-- Going back: 0, then 23 no such name, then to its place.
abbrev pub back_decision : Bool → Option ℕ → Result ℕ Refusal
back_decision sound (Some k) = cond sound (Ok k) (Err Unsound)
back_decision sound None = cond sound (Err NoSuchName) (Err Unsound)

-- The replies by these.
abbrev pub keep_as : State → Name → Result (Option ℕ) Refusal → Reply
keep_as s n (Err r) = replied (Err r) s s
keep_as s n (Ok (Some k)) = replied (Ok tt) s (with_kept s (kept_under s k (name_at s.kept k)) s.count)
keep_as s n (Ok None) = replied (Ok tt) s (with_kept s (kept_under s s.count n) (s.count + 1))

abbrev pub back_as : State → Result ℕ Refusal → Reply
back_as s (Err r) = replied (Err r) s s
back_as s (Ok k) = replied (Ok tt) s (with_current s (balance_at s.kept k))
