-- `planning::place_of` meets its contract. Assumes nothing.
use mathlib.Core.Path.{◌∙◌}
use mathlib.Core.Bool.{Bool}
use borrow.Author.Tests.{tests}
use Rattle.std.proofs.Common.{rules}
use Rattle.std.proofs.lemmas.Iterator.{YieldsList-from_slice}
use Rattle.std.proofs.lemmas.Iterator.Search.{position_from_yields_List}
use Rattle.planning.specs.declared.Kept.{Kept}
use Rattle.planning.specs.Names.{same_name}
use Rattle.planning.specs.State.{no_kept}
use Rattle.planning.proofs.Places.{position_first}
use Rattle.planning.proofs.names.place_of.Goals as goal

pub returns : goal.returns
returns c =
    let named : Kept → Bool = λ held. same_name held.name c.args.name in
    position_from_yields_List named _ _ c.position.result c.position.ensures.ran (YieldsList-from_slice c.args.kept.now c.iter.ensures.rest)
    (λ x b q k. search (rules, tests))
    ∙ position_first named c.args.kept.now no_kept
