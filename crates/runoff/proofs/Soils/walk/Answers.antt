-- `Soils::walk` meets its contract. Assumes nothing.
use Rattle.std.proofs.Common.{◌∙◌, ℕ, ◌+◌, ◌*◌, ◌≤◌, sym, ap, arith}
use native.Mathlib.Nat.{mul-le-mul_left}
use Rattle.std.proofs.lemmas.List.{take_all}
use Rattle.runoff.specs.Walk.{walked}
use Rattle.runoff.specs.declared.Plot.{Plot}
use Rattle.runoff.proofs.Walking.{walked_none, walked_one, walked_more}
use Rattle.runoff.proofs.Soils.walk.Goals as goal

abbrev none : Plot
none = record { cover = 0; soil = 0; hectares = 0 }

-- K is at most 33.
most : (h k : ℕ) → k ≤ 33 → h * k ≤ 33 * h
most h k l = omega (arith, mul-le-mul_left h l)

pub loop-plot-init : goal.loop-plot-init
loop-plot-init c = record { sums = sym (walked_none c.args.self); area = omega arith; weighted = omega arith }

pub overflow_add-soils-in-loop-plot : goal.overflow_add-soils-in-loop-plot
overflow_add-soils-in-loop-plot c = omega (arith, most c.from-hectares.result c.coefficient.result c.coefficient.ensures.most)

pub loop-plot-preserved : goal.loop-plot-preserved
loop-plot-preserved c =
    record {
      sums =
          (λ i. record {
            area = (c.loop-plot.invariant.sums i).area + c.from-hectares.ensures i;
            weighted = (c.loop-plot.invariant.sums i).weighted + c.from-hectares.ensures i * c.coefficient.ensures.entry i;
          })
          ∙ sym (walked_one _ _) ∙ sym (walked_more c.args.self c.args.plots.now c.loop-plot.plot-index none c.loop-plot-test.true);
      area = omega arith;
      weighted = omega (arith, most c.from-hectares.result c.coefficient.result c.coefficient.ensures.most);
    }

pub returns : goal.returns
returns c = c.loop-plot.invariant.sums ∙ ap (walked c.args.self) (take_all _ _ c.loop-plot-test.false)
