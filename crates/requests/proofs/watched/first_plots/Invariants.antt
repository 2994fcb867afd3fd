-- The first places hold the soil records.
use Rattle.std.proofs.Common.{◌+◌, ◌*◌}
use Rattle.laws.proofs.Arrays.{Filled}
use Rattle.record.specs.Described.{plot_at}
use Rattle.requests.proofs.Reading.{no_plot}
use Rattle.requests.proofs.watched.first_plots.Given as goal

abbrev pub invariant-loop-k : goal.invariant-loop-k
invariant-loop-k l = Filled 17 no_plot (λ k. plot_at l.s (l.at + 4 + 6 * k)) l.k l.plots
