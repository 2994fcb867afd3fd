-- What running the calls of a book over a balance gives. Assumes nothing.
use Rattle.std.specs.Prelude.{ℕ, List}
use Rattle.model.specs.declared.Balance.{Balance}
use Rattle.record.specs.Calls.{calls_of, ending_of}
use Rattle.register.specs.Calls.{after}
use Rattle.calls.specs.declared.Ran.{Ran}

-- Every call that stands in a book from an offset on, run over a balance: how the calls end, and the balance after them.
abbrev pub ran : List ℕ → ℕ → Balance → Ran
ran s at b = record { ending = ending_of s at; balance = after b (calls_of s at) }
