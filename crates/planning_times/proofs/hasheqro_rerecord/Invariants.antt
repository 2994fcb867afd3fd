-- So far the records were answered. Assumes nothing.
use Rattle.planning_times.specs.Timed.{record_turn}
use Rattle.planning_times.proofs.Turning.{Going}
use Rattle.planning_times.proofs.hasheqro_rerecord.Given as goal

abbrev pub invariant-loop : goal.invariant-loop
invariant-loop l = Going record_turn l.times l.initial.s l.counter l.counts l.s
