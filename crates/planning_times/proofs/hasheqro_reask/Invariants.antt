-- What each call comes to. Assumes nothing.
use Rattle.planning_times.specs.Timed.{ask_turn}
use Rattle.planning_times.proofs.hasheqro_reask.Given as goal

abbrev pub ghost-in_turn : goal.ghost-in_turn
ghost-in_turn a = ask_turn
