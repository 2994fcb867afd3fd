-- With its own current balance a state is the state itself.
use mathlib.Core.Path.{ap, ◌∙◌}
use Rattle.planning.specs.Calls.{with_current}
use Rattle.planning.proofs.calls.keep_tested.Goals as goal

pub returns : goal.returns
returns c =
    let kept = c.keep_apart.ensures in
    record { answer = kept.answer; state = ap (with_current c.keep_apart.new.s) kept.own ∙ kept.state }
