-- One record of the calls more, by what stands there. Assumes nothing.
use Rattle.std.specs.Prelude.{Ok}
use Prim.Native.Nat.{ℕ, suc, ◌+◌}
use mathlib.Core.Path.{◌≡◌, ap, ◌∙◌}
use mathlib.Core.List.{List}
use lib.ListN.{length}
use native.Mathlib.Numerals.{add-one}
use native.Mathlib.Omega.{arith}
use Rattle.model.specs.declared.Refusal.{Refusal}
use Rattle.model.specs.declared.Call.{Call}
use Rattle.model.specs.declared.Balance.{Balance}
use Rattle.model.proofs.Answers.{by_answer}
use Rattle.record.specs.declared.CallAt.TheVariants.{End, Fails, Asks}
use Rattle.record.specs.Calls.{Ending, failed, call_at, calls_from, ending_from}
use Rattle.register.specs.Calls.{call_reply, after}
use Rattle.register.proofs.Keeping.{refused_keeps}
use Rattle.calls.specs.declared.Ran.{Ran}
use Rattle.calls.specs.Running.{ran}
use Rattle.calls.proofs.Onward.{asks_onward, same_calls}

-- What the rest of the calls gives, of at most so many records.
abbrev pub rest : ℕ → List ℕ → ℕ → Balance → Ran
rest left s at b = record { ending = ending_from left s at; balance = after b (calls_from left s at) }

-- The calls end so, and leave a balance.
abbrev pub ended : Ending → Balance → Ran
ended e b = record { ending = e; balance = b }

module _ (left : ℕ) (s : List ℕ) (at : ℕ) (b : Balance) where
  rest_ends : call_at s at ≡ End → rest (suc left) s at b ≡ ended (Ok tt) b
  unfolding calls_from ending_from after
  rest_ends e = rw (e, calls_from, ending_from, after)

  rest_fails : (n : Refusal) → call_at s at ≡ Fails n → rest (suc left) s at b ≡ ended (failed n at) b
  unfolding calls_from ending_from after
  rest_fails n e = rw (e, calls_from, ending_from, after)

  rest_asks : (c : Call) (to : ℕ) → call_at s at ≡ Asks c to → rest (suc left) s at b ≡ rest left s to (call_reply b c).balance
  unfolding calls_from ending_from after
  rest_asks c to e = rw (e, calls_from, ending_from, after)

-- What the calls of a book from an offset on give: each record takes bytes, so that the allowance of records serves the rest too.
module _ (s : List ℕ) (at : ℕ) (b : Balance) where
  one_of : ran s at b ≡ rest (suc (length s)) s at b
  one_of = ap (λ (left : ℕ). rest left s at b) (add-one (length s))

  pub ran_ends : call_at s at ≡ End → ran s at b ≡ ended (Ok tt) b
  ran_ends e = one_of ∙ rest_ends (length s) s at b e

  pub ran_fails : (n : Refusal) → call_at s at ≡ Fails n → ran s at b ≡ ended (failed n at) b
  ran_fails n e = one_of ∙ rest_fails (length s) s at b n e

  pub ran_asks : (c : Call) (to : ℕ) → call_at s at ≡ Asks c to → ran s at b ≡ ran s to (call_reply b c).balance
  ran_asks c to e =
      let o = asks_onward s at c to e in
      let same = same_calls (length s) (length s + 1) s to (omega (arith, o.0, o.1)) (omega arith) in
      one_of
      ∙ rest_asks (length s) s at b c to e
      ∙ (λ i. record { ending = same.ending i; balance = after (call_reply b c).balance (same.calls i) })

  -- A call that is not accepted leaves the balance as it is.
  pub ran_refused : (c : Call) (to : ℕ) → call_at s at ≡ Asks c to → ((call_reply b c).answer ≡ Ok tt → ⊥) → ran s at b ≡ ran s to b
  ran_refused c to e n =
      by_answer (call_reply b c).answer (λ a. absurd (n a)) (λ k a. ran_asks c to e ∙ ap (ran s to) (refused_keeps b c k a).0)
