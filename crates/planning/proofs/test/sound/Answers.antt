-- `planning::sound` meets its contract. Assumes nothing.
use mathlib.Core.Path.{sym, ap, ◌∙◌}
use mathlib.Core.Bool.{Bool, ◌&&◌}
use native.Mathlib.Omega.{arith}
use Rattle.planning.specs.Names.{distinct}
use Rattle.planning.specs.State.{name_at}
use Rattle.planning.proofs.Places.{sound_taken, distinct_taken}
use Rattle.planning.proofs.Replying.{sound_by}
use Rattle.planning.proofs.test.sound.Goals as goal

pub returns-then-kept_sound : goal.returns-then-kept_sound
returns-then-kept_sound c =
    let s = c.args.s.now in
    ap (λ (t : Bool). t && c.distinct.result) (sym c.if-kept_sound.true)
    ∙ sound_by s _ _ (sym c.sound.ensures ∙ c.if-not-sound.false) (omega arith)
    (c.kept_sound.ensures ∙ sound_taken s.kept s.count (omega arith))
    (c.distinct.ensures ∙ distinct_taken s.kept s.count (omega arith))

pub returns-else-kept_sound : goal.returns-else-kept_sound
returns-else-kept_sound c =
    let s = c.args.s.now in
    let apart = distinct (name_at s.kept) s.count in
    c.if-kept_sound.false
    ∙ ap (λ (t : Bool). t && apart) (sym c.if-kept_sound.false)
    ∙ sound_by s _ _ (sym c.sound.ensures ∙ c.if-not-sound.false) (omega arith)
    (c.kept_sound.ensures ∙ sound_taken s.kept s.count (omega arith)) (λ i. apart)
