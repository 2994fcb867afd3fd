-- Each part goes behind those before it, and the line feed behind them all.
use Rattle.std.proofs.Common.{◌≡◌, ◌∙◌, ℕ, List, ◌++◌, take, append_assoc, ap, arith}
use Rattle.std.proofs.lemmas.List.{take_all}
use Rattle.text.proofs.Pages.{restate, then, widen}
use Rattle.report.proofs.Parts.{one_more, all_rest}
use Rattle.report.proofs.line.Goals as goal

pub loop-part-preserved : goal.loop-part-preserved
loop-part-preserved c =
    one_more c.args.first.now c.args.parts.now c.loop-part.part-index _ c.loop-part-test.true c.loop-part.invariant c.put.ensures

pub returns : goal.returns
returns c =
    let all : take c.loop-part.part-index c.args.parts.now ≡ c.args.parts.now = take_all _ _ c.loop-part-test.false in
    let before = rw all at c.loop-part.invariant in
    widen
    (restate
    (then before c.byte.ensures)
    (append_assoc c.args.first.now _ _ ∙ ap (λ (l : List ℕ). c.args.first.now ++ l) (all_rest c.args.parts.now)))
    (omega arith)
