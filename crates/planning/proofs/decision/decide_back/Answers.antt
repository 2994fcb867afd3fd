-- `planning::decide_back` meets its contract. Assumes nothing.
use mathlib.Core.Path.{◌∙◌}
use Rattle.planning.proofs.Deciding.{back_place}
use Rattle.planning.proofs.decision.decide_back.Goals as goal

pub returns : goal.returns
returns c = c.ok_or.ensures.value ∙ back_place c.args.sound _ _ c.in_ok-sought.ensures
