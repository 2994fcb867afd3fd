-- A keeping and a return are printed as any request with their answer is: `kept` and `back` where it was accepted, and else the refusal's number.
-- Assumes nothing.
use Rattle.std.specs.Prelude.{Ok, Err}
use Prim.Native.Nat.{ℕ}
use mathlib.Core.Path.{◌≡◌, refl, sym}
use Rattle.model.specs.Answers.{Answer}
use Rattle.planning.specs.declared.Name.{Name}
use Rattle.planning.specs.declared.State.{State}
use Rattle.planning.specs.Calls.{keep_reply, back_reply}
use Rattle.requests.specs.Requests.{keep, back}
use Rattle.report.specs.Calls.{outcome_line}
use Rattle.report.specs.declared.Outcome.TheVariants.{Kept, Back}
use Rattle.listing.specs.Outcomes.{answered}
use Rattle.replies.specs.Reply.{kept_text, back_text, reply_text}

-- The line of what a keeping came to, by its answer.
kept_line : (k : ℕ) (a : Answer) → outcome_line k (answered a Kept) ≡ kept_text k a
kept_line k (Ok u) = refl
kept_line k (Err r) = refl

pub keeping_said : (k : ℕ) (st : State) (n : Name) → reply_text k st (keep n) ≡ outcome_line k (answered (keep_reply st n).answer Kept)
keeping_said k st n = sym (kept_line k (keep_reply st n).answer)

-- The line of what a return came to, by its answer.
back_line : (k : ℕ) (a : Answer) → outcome_line k (answered a Back) ≡ back_text k a
back_line k (Ok u) = refl
back_line k (Err r) = refl

pub return_said : (k : ℕ) (st : State) (n : Name) → reply_text k st (back n) ≡ outcome_line k (answered (back_reply st n).answer Back)
return_said k st n = sym (back_line k (back_reply st n).answer)
