-- The first places hold the years.
use Rattle.std.proofs.Common.{◌+◌, ◌*◌}
use Rattle.laws.proofs.Arrays.{Filled}
use Rattle.record.specs.Bytes.{bits16}
use Rattle.requests.proofs.watched.first_years.Given as goal

abbrev pub invariant-loop-k : goal.invariant-loop-k
invariant-loop-k l = Filled 201 0 (λ k. bits16 l.s (l.i + 2 * k)) l.k l.years
