-- What a call, a keeping or a return came to, by its answer. Assumes nothing.
use Rattle.std.specs.Prelude.{ℕ, Ok, Err}
use Rattle.model.specs.declared.Refusal.{Refusal}
use Rattle.model.specs.declared.Call.{Call}
use Rattle.model.specs.declared.Call.TheVariants.{Grant, Cancel}
use Rattle.model.specs.Answers.{Answer, number}
use Rattle.report.specs.declared.Outcome.{Outcome}
use Rattle.report.specs.declared.Outcome.TheVariants.{Given, Refused, Cancelled}

-- An accepted call gives or cancels a title of a number.
abbrev pub accepted_outcome : Call → ℕ → Outcome
accepted_outcome (Grant t) n = Given n
accepted_outcome (Cancel m) n = Cancelled n

-- A refused one, by its refusal.
abbrev pub refused_outcome : Refusal → Outcome
refused_outcome r = Refused (number r)

-- By the answer, where `done` is what was done if it was accepted.
abbrev pub answered : Answer → Outcome → Outcome
answered (Ok u) done = done
answered (Err r) done = refused_outcome r
