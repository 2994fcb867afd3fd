-- `window::moved` meets its contract. Assumes nothing.
use Rattle.std.proofs.Common.{◌≡◌, ◌∙◌, ◌+◌, ap, arith, get_or}
use Rattle.runoff.specs.Year.{rain_year}
use Rattle.runoff.proofs.RainBounds.{rain_within}
use Rattle.window.specs.Moving.{window_sum}
use Rattle.window.proofs.Sums.{moves_on, in_range, window_within}
use Rattle.window.proofs.moving.moved.Goals as goal
use Rattle.window.proofs.moving.moved.Goals.{After-rain_year-leaves}

-- The year that enters and the year that leaves, and the sums of the two windows.
enters : (c : After-rain_year-leaves)
    → c.rain_year-enters.result ≡ rain_year c.args.soils.area c.args.soils.weighted (get_or c.args.tenths.now (c.args.first + c.args.width) 0)
enters c = c.rain_year-enters.ensures ∙ ap (rain_year c.args.soils.area c.args.soils.weighted) c.from.ensures

leaves : (c : After-rain_year-leaves)
    → c.rain_year-leaves.result ≡ rain_year c.args.soils.area c.args.soils.weighted (get_or c.args.tenths.now c.args.first 0)
leaves c = c.rain_year-leaves.ensures ∙ ap (rain_year c.args.soils.area c.args.soils.weighted) c.from-2.ensures

moves : (c : After-rain_year-leaves)
    → c.rain_year-leaves.result + window_sum c.args.soils c.args.tenths.now c.args.width (c.args.first + 1) ≡ c.args.sum + c.rain_year-enters.result
moves c =
    omega (
      arith,
      enters c,
      leaves c,
      c.requires.sum,
      moves_on (rain_year c.args.soils.area c.args.soils.weighted) c.args.tenths.now c.args.width c.args.first c.requires.more,
    )

pub overflow_add-result : goal.overflow_add-result
overflow_add-result c =
    record {
      fits = omega (
        arith,
        c.requires.sum,
        c.requires.movable.most,
        window_within c.args.soils c.args.tenths.now c.args.width c.args.first c.requires.movable.yielding (omega (arith, c.requires.more)),
        enters c,
        rain_within _ _ _ (in_range c.args.soils c.args.tenths.now c.requires.movable.yielding (c.args.first + c.args.width) c.requires.more),
      );
    }

pub overflow_sub-result : goal.overflow_sub-result
overflow_sub-result c = omega (arith, moves c)

pub returns : goal.returns
returns c = omega (arith, moves c)
