-- The text of a call's line by its outcome. Assumes nothing.
use Rattle.std.specs.Prelude.{ℕ, List, Result, Ok, Err}
use Rattle.report.specs.Lines.{call_given, call_refused, call_cancelled, call_kept, call_back, call_windows}
use Rattle.report.specs.declared.Outcome.{Outcome}
use Rattle.report.specs.declared.Outcome.TheVariants.{Given, Refused, Cancelled, Kept, Back}

-- The line of the call at place k, with its outcome.
abbrev pub outcome_line : ℕ → Outcome → List ℕ
outcome_line k (Given title) = call_given k title
outcome_line k (Refused refusal) = call_refused k refusal
outcome_line k (Cancelled title) = call_cancelled k title
outcome_line k Kept = call_kept k
outcome_line k Back = call_back k

-- The line of a moving window at place k: how many windows there are, or the number of its refusal.
abbrev pub count_line : ℕ → Result ℕ ℕ → List ℕ
count_line k (Ok count) = call_windows k count
count_line k (Err refusal) = call_refused k refusal
