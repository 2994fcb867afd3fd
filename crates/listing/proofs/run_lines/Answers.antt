-- What follows the call lines is put behind them.
use Rattle.std.proofs.Common.{ap, arith}
use Rattle.calls.specs.declared.Ran.{Ran}
use Rattle.text.proofs.Pages.{then, restate}
use Rattle.listing.specs.Listing.{ran_text}
use Rattle.listing.proofs.run_lines.Goals as goal

pub call_lines-ran-requires : goal.call_lines-ran-requires
call_lines-ran-requires c = (c.requires.0, (c.requires.1.0, omega arith))

pub ran_lines-requires : goal.ran_lines-requires
ran_lines-requires c = let w = c.call_lines-ran.ensures.lines in omega (arith, w.put.short, w.put.place, w.size)

pub returns : goal.returns
returns c =
    let calls = c.call_lines-ran.ensures in
    then calls.lines (restate c.ran_lines.ensures (ap (λ (r : Ran). ran_text r.ending r.balance) calls.ran))
