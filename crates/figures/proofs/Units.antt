-- The figures of a unit from the passes over the tree. Assumes nothing.
use Prim.Native.Nat.{ℕ, ◌+◌, ◌<◌}
use mathlib.Core.Path.{◌≡◌, sym, ap, ◌∙◌}
use mathlib.Core.Bool.{true, false}
use native.Mathlib.Omega.{arith}
use lib.IntN.{pos, ◌-ℤ◌}
use Rattle.laws.specs.Table.{table}
use Rattle.laws.proofs.Arrays.{table_same}
use Rattle.laws.proofs.Parts.{less_is, less_pos, less_minus, less_equal}
use Rattle.figures.specs.declared.UnitFigures.{UnitFigures}
use Rattle.figures.specs.Figures.{unit_figures, no_unit_figures, figures_from, all_unit_figures}
use Rattle.model.specs.View.{View}
use Rattle.river.specs.Flow.{flow, gathered, Ready}
use Rattle.river.specs.Reserve.{running_total, committed, own_reserve}
use Rattle.river.proofs.Units.{SameUnits, AlikeUnits, alike_of, flow_alike, committed_alike, reserve_alike, alone, flow_alone, committed_alone, reserve_alone}
use Rattle.river.proofs.Flows.{flow_parts}

-- The figures of a unit from what is gained and lost at it and above it are those that the definitions give.
figures_are : (v : View) (j : ℕ)
    → figures_from (v.unit j) (gathered v false j) (gathered v true j) (running_total v j j) (committed v j) ≡ unit_figures v j
figures_are v j = λ i.
    record {
      flow = sym (less_is (flow_parts v j)) i;
      committed = committed v j;
      reserve = own_reserve v j;
      availability = available i;
    }
  where
    available : pos (gathered v false j) -ℤ pos (gathered v true j + committed v j) ≡ flow v j -ℤ pos (committed v j)
    available =
        less_equal (less_minus (less_pos (gathered v false j)) (less_pos (gathered v true j + committed v j)))
        (less_minus (flow_parts v j) (less_pos (committed v j))) (omega arith)

pub figures_from_lem : (v : View) (j g l a c : ℕ) (x : UnitFigures)
    → g ≡ gathered v false j → l ≡ gathered v true j → a ≡ running_total v j j → c ≡ committed v j
    → x ≡ figures_from (v.unit j) g l a c → x ≡ unit_figures v j
figures_from_lem v j g l a c x eg el ea ec e =
    e ∙ (λ i. figures_from (v.unit j) (eg i) (el i) (ea i) (ec i)) ∙ figures_are v j

-- The figures over views with alike units, and so over views with the same units, are the same.
pub unit_figures_alike : (v w : View) → AlikeUnits v w → Ready v → (j : ℕ) → j < v.units → unit_figures w j ≡ unit_figures v j
unit_figures_alike v w a r j h = λ i.
    record {
      flow = flow_alike v w a j h i;
      committed = committed_alike v w a r j h i;
      reserve = reserve_alike v w a r j h i;
      availability = flow_alike v w a j h i -ℤ pos (committed_alike v w a r j h i);
    }

pub figures_alike : (v w : View) → AlikeUnits v w → Ready v → all_unit_figures w ≡ all_unit_figures v
figures_alike v w a r =
    ap (λ (n : ℕ). table 64 no_unit_figures n (unit_figures w)) a.count
    ∙ table_same 64 no_unit_figures v.units _ _ r.few (unit_figures_alike v w a r)

pub figures_same : (v w : View) → SameUnits v w → Ready v → all_unit_figures w ≡ all_unit_figures v
figures_same v w s = figures_alike v w (alike_of v w s)

-- The figures over the units of a view alone are those over the view.
pub unit_figures_alone : (v : View) (j : ℕ) → unit_figures (alone v) j ≡ unit_figures v j
unit_figures_alone v j = λ i.
    record {
      flow = flow_alone v j i;
      committed = committed_alone v j i;
      reserve = reserve_alone v j i;
      availability = flow_alone v j i -ℤ pos (committed_alone v j i);
    }
