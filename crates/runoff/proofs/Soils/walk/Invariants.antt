-- The two sums are those of the records so far, and leave room for those to come.
use Rattle.std.proofs.Common.{◌≡◌, ◌+◌, ◌*◌, ◌^◌, ◌≤◌, take}
use Rattle.runoff.specs.Walk.{walked}
use Rattle.runoff.proofs.Soils.walk.Given as goal

abbrev pub invariant-loop-plot : goal.invariant-loop-plot
invariant-loop-plot l =
    record {
      sums : l.soils ≡ walked l.fn.self (take l.plot-index l.plots);
      area : l.soils.area ≤ l.fn.self.area + 2 ^ 32 * l.plot-index;
      weighted : l.soils.weighted ≤ l.fn.self.weighted + 33 * 2 ^ 32 * l.plot-index;
    }
