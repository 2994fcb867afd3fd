-- Arrays through which a loop carries amounts down a tree in place. Assumes nothing.
use Prim.Native.Nat.{ℕ, zero, suc, ◌+◌, ◌≤◌, ◌<◌}
use mathlib.Core.Path.{◌≡◌, refl, ◌∙◌}
use mathlib.Core.Bool.{Bool}
use mathlib.Core.List.{List}
use lib.ListN.{length, get_or, set, replicate, length-set, length-replicate, get_or-eq_default}
use lib.Seq.{get_or-set_same, get_or-set_other}
use native.Mathlib.Omega.{arith}
use borrow.Author.Tests.{eq-eqb, ne_eqb}
use Rattle.laws.specs.Sum.{naturals, sum_of}
use Rattle.laws.specs.Gather.{arriving}
use Rattle.laws.proofs.Cases.{by_eq, by_lt}
use Rattle.laws.proofs.Arrays.{get_or_empty}
use Rattle.model.specs.View.{View}
use Rattle.river.specs.Flow.{downstream, gathered, Ready, Gathered}
use Rattle.river.proofs.Flows.{gathered_small, arrived_small}

-- Each of the first i of n places holds its whole amount x, and each later place what has arrived there from those.
pub record Carried (n : ℕ) (down x : ℕ → ℕ) (i : ℕ) (w : List ℕ) : Type 0 where
  pub long : length w ≡ n
  pub done : (j : ℕ) → j < i → get_or w j 0 ≡ x j
  pub ahead : (j : ℕ) → i ≤ j → j < n → get_or w j 0 ≡ arriving naturals down x i j

-- The same with place i whole besides, before its amount goes on.
pub record Whole (n : ℕ) (down x : ℕ → ℕ) (i : ℕ) (w : List ℕ) : Type 0 where
  pub long : length w ≡ n
  pub done : (j : ℕ) → j < suc i → get_or w j 0 ≡ x j
  pub ahead : (j : ℕ) → suc i ≤ j → j < n → get_or w j 0 ≡ arriving naturals down x i j

module _ (n : ℕ) (down x : ℕ → ℕ) where
  pub carried_start : Carried n down x 0 (replicate n 0)
  unfolding sum_of
  carried_start =
      record { long = length-replicate n 0; done = λ j h. absurd (omega arith); ahead = λ j g h. get_or_empty n j 0 }

  pub carried_whole : (i : ℕ) (w : List ℕ) → i < n → Carried n down x i w → Whole n down x i (set w i (x i))
  carried_whole i w h p =
      record {
        long = length-set w i (x i) ∙ p.long;
        done = λ j g.
            by_eq j i
            (λ q. rw q (get_or-set_same w i (x i) 0 (omega (arith, p.long))))
            (λ q. get_or-set_other w i j (x i) 0 q ∙ p.done j (omega arith));
        ahead = λ j g k. get_or-set_other w i j (x i) 0 (omega arith) ∙ p.ahead j (omega arith) k;
      }

  -- The amount of an outlet goes nowhere.
  pub whole_out : (i : ℕ) (w : List ℕ) → down i ≡ 0 → Whole n down x i w → Carried n down x (suc i) w
  unfolding sum_of
  whole_out i w e p =
      record {
        long = p.long;
        done = p.done;
        ahead = λ j g h. rw (ne_eqb (down i) (suc j) (omega arith)) (omega (arith, p.ahead j g h));
      }

  -- The amount of another place is added to what has arrived at the place that it drains into.
  pub whole_on : (i k : ℕ) (w : List ℕ) → down i ≡ suc k → i < k → k < n → Whole n down x i w
      → Carried n down x (suc i) (set w k (get_or w k 0 + x i))
  unfolding sum_of
  whole_on i k w e l h p =
      record {
        long = length-set w k (get_or w k 0 + x i) ∙ p.long;
        done = λ j g. get_or-set_other w k j (get_or w k 0 + x i) 0 (omega arith) ∙ p.done j g;
        ahead = λ j g q.
            by_eq j k
            (λ s. rw (s, get_or-set_same w k (get_or w k 0 + x i) 0 (omega (arith, p.long)), eq-eqb (down i) (suc k) e)
            (omega (arith, p.ahead k (omega arith) h)))
            (λ s. rw (get_or-set_other w k j (get_or w k 0 + x i) 0 s, ne_eqb (down i) (suc j) (omega arith))
            (omega (arith, p.ahead j g q)));
      }

-- What a unit leaves at a later unit is small.
pub left_small : (v : View) (lost : Bool) → Ready v → (i k : ℕ) → i < k → k < v.units → (w : List ℕ)
    → Whole 64 (downstream v) (gathered v lost) i w → get_or w k 0 + gathered v lost i ≤ 5120000000
left_small v lost r i k l h w p =
    omega (
      arith,
      r.few,
      p.ahead k l (omega (arith, r.few)),
      arrived_small v lost r i k (omega arith) h,
      gathered_small v lost r i (omega arith),
    )

-- Nothing arrives past the last unit.
arriving_none : (v : View) (x : ℕ → ℕ) → Ready v → (i j : ℕ) → i ≤ v.units → v.units ≤ j
    → arriving naturals (downstream v) x i j ≡ 0
unfolding sum_of
arriving_none v x r zero j h g = refl
arriving_none v x r (suc i) j h g =
    rw (ne_eqb (downstream v i) (suc j) (omega (arith, r.within i (omega arith)))) (omega (arith, arriving_none v x r i j (omega arith) g))

-- So a place past the last unit holds 0, if each place holds what has arrived there.
pub rest_none : (v : View) (x : ℕ → ℕ) → Ready v → (w : List ℕ) → length w ≡ 64
    → ((j : ℕ) → v.units ≤ j → j < 64 → get_or w j 0 ≡ arriving naturals (downstream v) x v.units j)
    → (j : ℕ) → v.units ≤ j → get_or w j 0 ≡ 0
rest_none v x r w long each j h =
    by_lt j 64
    (λ g. each j h g ∙ arriving_none v x r v.units j (omega arith) h)
    (λ g. get_or-eq_default w 0 (omega arith))

-- When all units are passed, each holds what it gathers.
pub carried_gathered : (v : View) (lost : Bool) → Ready v → (w : List ℕ)
    → Carried 64 (downstream v) (gathered v lost) v.units w → Gathered v lost w
carried_gathered v lost r w p =
    record { long = p.long; each = p.done; rest = rest_none v (gathered v lost) r w p.long p.ahead }
