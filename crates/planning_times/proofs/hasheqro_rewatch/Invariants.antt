-- So far the windows of so many repetitions are counted. Assumes nothing.
use Rattle.std.proofs.Common.{◌≡◌, ◌*◌}
use Rattle.requests.specs.Requests.{request_at}
use Rattle.planning_times.specs.Timed.{windows_given}
use Rattle.planning_times.proofs.hasheqro_rewatch.Given as goal

abbrev pub invariant-loop : goal.invariant-loop
invariant-loop l = l.windows ≡ l.counter * windows_given (request_at l.bytes 0)
