-- `planning::distinct` meets its contract. Assumes nothing.
use Prim.Native.Nat.{ℕ}
use mathlib.Core.Path.{refl, ◌∙◌}
use mathlib.Core.Bool.{Bool, not}
use native.Mathlib.Omega.{arith}
use lib.ListN.{length}
use borrow.Author.Tests.{tests}
use Rattle.std.proofs.Common.{rules}
use Rattle.std.proofs.lemmas.Iterator.{YieldsList-from_range}
use Rattle.std.proofs.lemmas.Iterator.Search.{all_from_yields_List}
use Rattle.laws.specs.Sum.{every}
use Rattle.planning.specs.Names.{same_name, distinct}
use Rattle.planning.specs.State.{name_at}
use Rattle.planning.proofs.Places.{below_every}
use Rattle.planning.proofs.names.distinct.Goals as goal

pub returns : goal.returns
unfolding distinct
returns c =
    let names = name_at c.args.kept.now in
    let n = length c.args.kept.now in
    let test : ℕ → Bool = λ place. every place (λ k. not (same_name (names k) (names place))) in
    all_from_yields_List test _ _ _ c.all.ensures.ran (YieldsList-from_range 0 n n refl (omega arith)) (λ x b q k. search (rules, tests))
    ∙ below_every test n
