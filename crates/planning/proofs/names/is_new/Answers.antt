-- `planning::is_new` meets its contract. Assumes nothing.
use mathlib.Core.Path.{sym, ◌∙◌}
use native.Mathlib.Omega.{arith}
use Rattle.planning.specs.State.{name_at}
use Rattle.planning.proofs.Naming.{new_by}
use Rattle.planning.proofs.Places.{place_taken}
use Rattle.planning.proofs.names.is_new.Goals as goal

-- The name is sought in the places before its own.
pub returns : goal.returns
returns c =
    let names = name_at c.args.kept.now in
    let place = c.args.place in
    new_by names place (names place) c.place_of.result c.is_none.result
    (sym (c.place_of.ensures ∙ place_taken c.args.kept.now place (omega arith) _))
    c.is_none.ensures
