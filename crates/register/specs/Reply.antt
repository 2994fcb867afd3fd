-- The reply of a call: the answer, the title's number and the balance. Assumes nothing.
use Rattle.std.specs.Prelude.{ℕ, ◌+◌, not, Ok, Err}
use Rattle.model.specs.declared.Refusal.TheVariants.{Unsound}
use Rattle.model.specs.declared.Title.{Title}
use Rattle.model.specs.declared.Balance.{Balance}
use Rattle.model.specs.View.{view_of}
use Rattle.model.specs.Answers.{Answer, refuse}
use Rattle.basin.specs.Sound.{sound}
use Rattle.effect.specs.Granted.{posted}
use Rattle.refusal.specs.Grant.{grant_refusal}
use Rattle.register.specs.declared.Reply.{Reply}

-- Every call first gives 0 if the balance is not sound.
abbrev pub after_test : Balance → Answer → Answer
after_test b r = refuse Unsound (not (sound (view_of b))) r

-- A refused call returns its number, the old balance, and 0 as the title's number; an accepted one the new balance and the title's number.
abbrev pub replied : Answer → Balance → Balance → ℕ → Reply
replied (Ok u) old new n = record { answer = Ok tt; number = n; balance = new }
replied (Err k) old new n = record { answer = (Err k); number = 0; balance = old }

-- GU, GA, TU, TA and GW: the reply to a grant.
abbrev pub grant_reply : Balance → Title → Reply
grant_reply b t = replied (after_test b (grant_refusal (view_of b) t)) b (posted b t) (b.given + 1)
