-- `window::sum_of` meets its contract. Assumes nothing.
use Rattle.std.proofs.Common.{◌≡◌, ◌∙◌, ap, refl, arith, get_or}
use Rattle.std.proofs.lemmas.List.{take_all}
use Rattle.std.proofs.lemmas.List.Sums.{sum_by_more, sum_by_more_le}
use Rattle.runoff.specs.Year.{rain_year}
use Rattle.window.specs.Moving.{years_on}
use Rattle.window.proofs.Sums.{years_within}
use Rattle.window.proofs.moving.sum_of.Goals as goal
use Rattle.window.proofs.moving.sum_of.Goals.{After-rain_year-sum}

gives : (c : After-rain_year-sum) → c.rain_year-sum.result ≡ rain_year c.args.soils.area c.args.soils.weighted (get_or c.args.tenths.now c.loop-year.year-index 0)
gives c = c.rain_year-sum.ensures ∙ ap (rain_year c.args.soils.area c.args.soils.weighted) c.from.ensures

pub loop-year-init : goal.loop-year-init
loop-year-init c = refl

pub overflow_add-sum : goal.overflow_add-sum
overflow_add-sum c =
    record {
      fits = omega (
        arith,
        c.loop-year.invariant,
        gives c,
        sum_by_more_le (rain_year c.args.soils.area c.args.soils.weighted) c.args.tenths.now c.loop-year.year-index 0 c.loop-year-test.true,
        years_within c.args.soils c.args.tenths.now c.requires.yielding,
        c.requires.few,
      );
    }

pub loop-year-preserved : goal.loop-year-preserved
loop-year-preserved c =
    omega (
      arith,
      c.loop-year.invariant,
      gives c,
      sum_by_more (rain_year c.args.soils.area c.args.soils.weighted) c.args.tenths.now c.loop-year.year-index 0 c.loop-year-test.true,
    )

pub returns : goal.returns
returns c = c.loop-year.invariant ∙ ap (years_on c.args.soils) (take_all _ _ c.loop-year-test.false)
