-- `basin::flowing` meets its contract. Assumes nothing.
use borrow.Author.Tests.{tests}
use mathlib.Core.Path.{◌∙◌}
use mathlib.Core.Bool.{Bool}
use Prim.Native.Nat.{ℕ}
use lib.Dec.{leb}
use Rattle.std.proofs.Common.{arith, rules}
use Rattle.std.proofs.lemmas.Iterator.{YieldsList-from_slice, YieldsList-from_zip, YieldsList-from_take}
use Rattle.std.proofs.lemmas.Iterator.Search.{all_from_yields_List}
use Rattle.basin.proofs.Everywhere.{zip_taken}
use Rattle.basin.proofs.test.flowing.Goals as goal

pub returns : goal.returns
returns c =
    let lost = c.args.amounts.now.lost in
    let gained = c.args.amounts.now.gained in
    let holds : ℕ × ℕ → Bool = λ p. leb p.0 p.1 in
    all_from_yields_List holds c.all.new.self _ _ c.all.ensures.ran
    (YieldsList-from_take c.args.n (YieldsList-from_zip (YieldsList-from_slice lost (cc)) (YieldsList-from_slice gained (cc))) (cc))
    (λ x b q k. search (rules, tests))
    ∙ zip_taken holds lost gained 0 0 c.args.n (omega arith) (omega arith)
