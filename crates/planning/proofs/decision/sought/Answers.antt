-- `planning::sought` meets its contract. Assumes nothing.
use mathlib.Core.Path.{◌∙◌}
use native.Mathlib.Omega.{arith}
use Rattle.planning.proofs.Places.{place_taken}
use Rattle.planning.proofs.decision.sought.Goals as goal

pub returns-then-sound : goal.returns-then-sound
returns-then-sound c =
    let s = c.args.s.now in
    let few = c.requires c.if-sound.true in
    let place = c.place_of.ensures ∙ place_taken s.kept s.count (omega arith) c.args.name in
    rw (c.if-sound.true, place)
