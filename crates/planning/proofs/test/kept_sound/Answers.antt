-- `planning::kept_sound` meets its contract. Assumes nothing.
use mathlib.Core.Path.{◌∙◌}
use mathlib.Core.Bool.{Bool}
use borrow.Author.Tests.{tests}
use Rattle.std.proofs.Common.{rules}
use Rattle.std.proofs.lemmas.Iterator.{YieldsList-from_slice}
use Rattle.std.proofs.lemmas.Iterator.Search.{all_from_yields_List}
use Rattle.model.specs.View.{view_of}
use Rattle.basin.specs.Sound.{sound}
use Rattle.planning.specs.declared.Kept.{Kept}
use Rattle.planning.specs.State.{no_kept, kept_sound}
use Rattle.planning.proofs.Places.{all_every}
use Rattle.planning.proofs.test.kept_sound.Goals as goal

pub returns : goal.returns
unfolding kept_sound
returns c =
    let kept = c.args.kept.now in
    let test : Kept → Bool = λ held. sound (view_of held.balance) in
    all_from_yields_List test _ _ _ c.all.ensures.ran (YieldsList-from_slice kept c.iter.ensures.rest) (λ x b q k. search (rules, tests))
    ∙ all_every test kept no_kept
