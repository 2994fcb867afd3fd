-- `calls::run_tested` meets its contract. Assumes nothing.
use Rattle.std.proofs.Common.{sym, ◌∙◌, rules}
use native.Mathlib.Omega.{arith}
use borrow.Author.Tests.{tests}
use Rattle.calls.proofs.Onward.{asks_onward}
use Rattle.calls.proofs.Running.{ran_ends, ran_fails, ran_asks, ran_refused}
use Rattle.calls.proofs.tested.run_tested.Goals as goal

pub loop-refusal-smaller-then-is_ok : goal.loop-refusal-smaller-then-is_ok
loop-refusal-smaller-then-is_ok c =
    let o = asks_onward _ _ _ _ (sym c.in-Asks.ensures) in omega (arith, o.0, o.1)

pub loop-refusal-smaller : goal.loop-refusal-smaller
loop-refusal-smaller c =
    let o = asks_onward _ _ _ _ (sym c.in-Asks.ensures) in omega (arith, o.0, o.1)

pub loop-refusal-preserved-then-is_ok : goal.loop-refusal-preserved-then-is_ok
loop-refusal-preserved-then-is_ok c =
    let l = c.loop-refusal in (
      rw c.perform-b.ensures.value (sym (ran_asks _ _ _ _ _ (sym c.in-Asks.ensures)) ∙ l.invariant.0),
      l.invariant.1 ∙ c.perform-b.ensures.b_value,
    )

pub loop-refusal-preserved : goal.loop-refusal-preserved
loop-refusal-preserved c =
    let l = c.loop-refusal in
    (sym (ran_refused _ _ _ _ _ (sym c.in-Asks.ensures) (λ e. search (rules, tests))) ∙ l.invariant.0, l.invariant.1)

pub returns-in-End : goal.returns-in-End
returns-in-End c = sym (ran_ends _ _ _ (sym c.in-End.ensures)) ∙ c.loop-refusal.invariant.0

pub returns-in-Fails : goal.returns-in-Fails
returns-in-Fails c = sym (ran_fails _ _ _ _ (sym c.in-Fails.ensures)) ∙ c.loop-refusal.invariant.0
