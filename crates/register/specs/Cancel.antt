-- Cancelling a title, over a view of the entries (document 01, "Titles" and the refusals of CA; document 02 [2]). Assumes nothing.
use Rattle.std.specs.Prelude.{ℕ, pred, Bool, not, ◌&&◌, Ok}
use Rattle.model.specs.declared.Refusal.TheVariants.{NotInForce, FlowNeeded}
use Rattle.model.specs.declared.Balance.{Balance}
use Rattle.model.specs.View.{View, view_of}
use Rattle.model.specs.Answers.{Answer, refuse}
use Rattle.basin.specs.Sound.{exists, flowing}
use Rattle.effect.specs.Cancelled.{cancelled, without_title}
use Rattle.register.specs.Reply.{after_test, replied}
use Rattle.register.specs.declared.Reply.{Reply}

-- A number is in force: it was given, and its place is in force.
abbrev pub number_in_force : View → ℕ → Bool
number_in_force v n = exists v.given n && (v.place (pred n)).in_force

-- CA: 19 number not in force; 20 some flow would be negative without the title.
abbrev pub cancel_refusal : View → ℕ → Answer
cancel_refusal v n = refuse NotInForce (not (number_in_force v n)) (refuse FlowNeeded (not (flowing (cancelled v n))) (Ok tt))

-- CA: the reply to a cancellation; accepted, it carries the cancelled number.
abbrev pub cancel_reply : Balance → ℕ → Reply
cancel_reply b n = replied (after_test b (cancel_refusal (view_of b) n)) b (without_title b n) n
