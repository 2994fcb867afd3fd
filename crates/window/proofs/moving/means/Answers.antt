-- `window::means` meets its contract. Assumes nothing.
use Rattle.std.proofs.Common.{◌≡◌, ◌∙◌, ◌-◌, ap, arith, add-one, suc, length}
use Rattle.laws.proofs.Arrays.{filled_start, filled_put, filled_table}
use Rattle.window.specs.Window.{window_limit, window_count}
use Rattle.window.specs.Moving.{mean_of, mean_at}
use Rattle.window.proofs.Sums.{window_within}
use Rattle.window.proofs.moving.means.Goals as goal

pub loop-first-init : goal.loop-first-init
loop-first-init c = record { filled = filled_start window_limit 0 _; sum = c.sum_of-sum.ensures }

pub mean-requires-clause-within : goal.mean-requires-clause-within
mean-requires-clause-within c =
    omega (
      arith,
      c.loop-first.invariant.sum,
      window_within c.args.soils c.args.tenths.now c.args.width c.loop-first.first c.requires.yielding (omega (arith, c.loop-first-test.true)),
    )

pub moved-sum-requires-clause-sum : goal.moved-sum-requires-clause-sum
moved-sum-requires-clause-sum c = c.loop-first.invariant.sum

pub loop-first-preserved : goal.loop-first-preserved
loop-first-preserved c =
    record {
      filled = rw (add-one c.loop-first.first)
          (filled_put window_limit 0 (mean_at c.args.soils c.args.tenths.now c.args.width) c.loop-first.first c.loop-first.means _
          (omega arith)
          (c.mean.ensures ∙ ap (mean_of c.args.width) c.loop-first.invariant.sum) c.loop-first.invariant.filled);
      sum = c.moved-sum.ensures;
    }

pub mean-requires-2-clause-within : goal.mean-requires-2-clause-within
mean-requires-2-clause-within c =
    omega (
      arith,
      c.loop-first.invariant.sum,
      window_within c.args.soils c.args.tenths.now c.args.width c.loop-first.first c.requires.yielding (omega (arith, c.requires.within)),
    )

pub returns : goal.returns
returns c =
    let last : length c.args.tenths.now - c.args.width ≡ c.loop-first.first = omega arith in
    let count : window_count c.args.tenths.now c.args.width ≡ suc c.loop-first.first = omega (arith, c.requires.within) in
    let f = mean_at c.args.soils c.args.tenths.now c.args.width in
    rw (last, count)
    (filled_table window_limit 0 f (suc c.loop-first.first) _
    (filled_put window_limit 0 f c.loop-first.first c.loop-first.means _
    (omega arith)
    (c.mean-2.ensures ∙ ap (mean_of c.args.width) c.loop-first.invariant.sum) c.loop-first.invariant.filled))
