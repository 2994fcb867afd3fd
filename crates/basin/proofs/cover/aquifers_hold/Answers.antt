-- `basin::aquifers_hold` meets its contract. Assumes nothing.
use borrow.Author.Tests.{tests}
use mathlib.Core.Path.{◌∙◌}
use mathlib.Core.Bool.{Bool, ◌&&◌}
use Prim.Native.Nat.{ℕ}
use lib.Dec.{leb}
use Rattle.std.proofs.Common.{arith, rules}
use Rattle.std.proofs.lemmas.Iterator.{YieldsList-from_slice, YieldsList-from_zip}
use Rattle.std.proofs.lemmas.Iterator.Search.{all_from_yields_List}
use Rattle.model.specs.declared.Aquifer.{Aquifer}
use Rattle.model.specs.Fresh.{empty_aquifer}
use Rattle.basin.specs.Sound.{sound_aquifer}
use Rattle.basin.proofs.Everywhere.{zip_every}
use Rattle.basin.proofs.cover.aquifers_hold.Goals as goal

pub returns : goal.returns
returns c =
    let aquifers = c.args.aquifers.now in
    let wells = c.args.sums.now.wells in
    let holds : Aquifer × ℕ → Bool = λ p. sound_aquifer p.0 && leb p.1 p.0.extraction in
    all_from_yields_List holds c.all.new.self _ _ c.all.ensures.ran
    (YieldsList-from_zip (YieldsList-from_slice aquifers (cc)) (YieldsList-from_slice wells (cc)))
    (λ x b q k. search (rules, tests))
    ∙ zip_every holds aquifers wells empty_aquifer 0 (omega arith)
