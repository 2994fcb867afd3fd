-- `listing::call_lines` meets its contract. Assumes nothing.
use Rattle.std.proofs.Common.{sym, ◌∙◌, rules}
use native.Mathlib.Omega.{arith}
use borrow.Author.Tests.{tests}
use Rattle.basin.proofs.Soundness.{soundness}
use Rattle.calls.proofs.Onward.{asks_onward}
use Rattle.calls.proofs.Running.{ran_ends, ran_fails}
use Rattle.listing.proofs.Calling.{printing_start, lines_end, lines_fail, few_more, printing_answered, printing_refused}
use Rattle.listing.proofs.call_lines.Goals as goal
use Rattle.listing.proofs.call_lines.Goals.{then-is_ok, else-is_ok}

pub loop-refusal-init : goal.loop-refusal-init
loop-refusal-init c = (printing_start _ _ _ _ (omega arith), c.requires.1.0)

pub called-outcome-requires : goal.called-outcome-requires
called-outcome-requires c = λ e. (soundness _ c.loop-refusal.invariant.1).few_titles

pub put-requires : goal.put-requires
put-requires c =
    let i = c.loop-refusal.invariant.0 in
    let few = few_more _ _ _ _ _ _ i _ _ (sym c.in-Asks.ensures) in
    omega (arith, i.put.put.short, i.put.put.place, i.put.size, few, c.requires.0)

pub loop-refusal-smaller : goal.loop-refusal-smaller
loop-refusal-smaller c =
    let o = asks_onward _ _ _ _ (sym c.in-Asks.ensures) in omega (arith, o.0, o.1)

pub loop-refusal-preserved : goal.loop-refusal-preserved
loop-refusal-preserved c =
    let i = c.loop-refusal.invariant in
    let stands = sym c.in-Asks.ensures in
    let answer = c.decide-answer.ensures in
    let line = rw c.called-outcome.ensures at c.put.ensures in
    elim c.if-is_ok.branch [
      | then-is_ok w ↦
          rw w.b-is (
            rw w.perform-b.ensures.value (printing_answered _ _ _ _ _ _ i.0 _ _ stands _ answer line),
            sym w.perform-b.ensures.b_value ∙ i.1,
          )
      | else-is_ok w ↦
          rw w.b-is (printing_refused _ _ _ _ _ _ i.0 _ _ stands _ answer line (λ e. search (rules, tests)), i.1)
    ]

pub returns-in-End : goal.returns-in-End
returns-in-End c =
    let i = c.loop-refusal.invariant.0 in
    let stands = sym c.in-End.ensures in
    record { ran = sym (ran_ends _ _ _ stands) ∙ i.same; lines = lines_end _ _ _ _ _ _ i c.requires.0 stands }

pub returns-in-Fails : goal.returns-in-Fails
returns-in-Fails c =
    let i = c.loop-refusal.invariant.0 in
    let stands = sym c.in-Fails.ensures in
    record { ran = sym (ran_fails _ _ _ _ stands) ∙ i.same; lines = lines_fail _ _ _ _ _ _ i c.requires.0 _ stands }
