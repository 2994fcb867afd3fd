-- The six calls as one, and lists of calls (document 01, "What each operation refuses"; document 02 [2]; demand 3). Assumes nothing.
use Rattle.std.specs.Prelude.{ℕ, ◌+◌, List, [], ◌∷◌}
use Rattle.model.specs.declared.Call.{Call}
use Rattle.model.specs.declared.Call.TheVariants.{Grant, Cancel}
use Rattle.model.specs.declared.Balance.{Balance}
use Rattle.model.specs.View.{View}
use Rattle.model.specs.Answers.{Answer}
use Rattle.refusal.specs.Grant.{grant_refusal}
use Rattle.register.specs.Reply.{grant_reply}
use Rattle.register.specs.Cancel.{cancel_refusal, cancel_reply}
use Rattle.register.specs.declared.Reply.{Reply}

-- What a call refuses, leaving out 0.
abbrev pub call_refusal : View → Call → Answer
call_refusal v (Grant t) = grant_refusal v t
call_refusal v (Cancel n) = cancel_refusal v n

-- The reply to a call.
abbrev pub call_reply : Balance → Call → Reply
call_reply b (Grant t) = grant_reply b t
call_reply b (Cancel n) = cancel_reply b n

-- The number that an accepted call tells, where so many numbers were given: the next one for a grant, the cancelled one for a cancellation.
abbrev pub call_number : ℕ → Call → ℕ
call_number given (Grant t) = given + 1
call_number given (Cancel n) = n

-- The balance after a list of calls: the first call gets the balance handed in, each later one the balance that the one before returned.
unfoldable pub after : Balance → List Call → Balance
after b [] = b
after b (c ∷ cs) = after (call_reply b c).balance cs
