-- What each call comes to. Assumes nothing.
use Rattle.planning_times.specs.Timed.{keep_turn}
use Rattle.planning_times.proofs.hasheqro_rekeep.Given as goal

abbrev pub ghost-in_turn : goal.ghost-in_turn
ghost-in_turn a = keep_turn
