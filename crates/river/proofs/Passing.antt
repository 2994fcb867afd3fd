-- The forward pass over the units of a view: what the amounts hold when the first i units are passed. Assumes nothing.
use Prim.Native.Nat.{ℕ, suc, pred, ◌+◌, ◌≤◌, ◌<◌}
use mathlib.Core.Path.{◌≡◌, ap, ◌∙◌}
use mathlib.Core.Bool.{Bool, true, false}
use mathlib.Core.List.{List}
use lib.ListN.{get_or, set, replicate}
use native.Mathlib.Omega.{arith}
use borrow.Author.Tests.{eq-eqb, ne_eqb}
use Rattle.laws.proofs.Gathering.{arriving_stays}
use Rattle.laws.proofs.Arrays.{Filled, Arrived, filled_start, filled_put, filled_keep, arrived_start, arrived_out, arrived_on}
use Rattle.model.specs.View.{View}
use Rattle.river.specs.declared.flow.Amounts.{Amounts}
use Rattle.river.specs.Flow.{downstream, part, gathered, Ready}
use Rattle.river.specs.Reserve.{contribution, running_total}
use Rattle.river.specs.Passes.{running_before, Flows}
use Rattle.river.proofs.Flows.{tree, gathered_is}
use Rattle.river.proofs.Reserves.{below_of, running_within, total_small}
use Rattle.river.proofs.Carried.{Carried, carried_start, carried_whole, whole_out, whole_on, left_small, rest_none, carried_gathered}

-- `gained` and `lost` have carried the parts of the first i units on, and `before` and `arrived` hold the running totals that these found
-- and left.
pub record Passed (v : View) (i : ℕ) (a : Amounts) : Type 0 where
  pub gained : Carried 64 (downstream v) (gathered v false) i a.gained
  pub lost : Carried 64 (downstream v) (gathered v true) i a.lost
  pub before : Filled 64 0 (running_before v) i a.before
  pub arrived : Arrived 64 (downstream v) (contribution v) i a.arrived

-- Before the pass there is 0 in every place.
pub passed_none : (v : View)
    → Passed v 0 (record { gained = replicate 64 0; lost = replicate 64 0; before = replicate 64 0; arrived = replicate 64 0 })
passed_none v =
    record {
      gained = carried_start 64 _ _;
      lost = carried_start 64 _ _;
      before = filled_start 64 0 _;
      arrived = arrived_start 64 _ _;
    }

-- The place of the downstream unit: a later unit of the balance.
pub record Onward (v : View) (i k : ℕ) : Type 0 where
  pub next : downstream v i ≡ suc k
  pub later : i < k
  pub within : k < v.units

pub onward_of : (v : View) → Ready v → (i k : ℕ) → i < v.units → downstream v i ≡ suc k → Onward v i k
onward_of v r i k h e =
    let b = below_of v r i h (λ g. omega arith) in
    record { next = e; later = omega (arith, b.next, b.later); within = omega (arith, b.next, b.within) }

module _ (v : View) (r : Ready v) (i : ℕ) (h : i < v.units) where
  -- What has been carried to unit i, with its own part, is what it gathers.
  pub whole_is : (lost : Bool) (w : List ℕ) (own : ℕ) → Carried 64 (downstream v) (gathered v lost) i w → own ≡ part lost (v.unit i)
      → get_or w i 0 + own ≡ gathered v lost i
  whole_is lost w own p e = omega (arith, r.few, p.ahead i (omega arith) (omega (arith, r.few)), gathered_is v lost i)

  -- The amount of unit i with what has been carried to the unit below it.
  pub carried_small : (lost : Bool) (k : ℕ) (w : List ℕ) (x : ℕ) → Onward v i k → x ≡ gathered v lost i
      → Carried 64 (downstream v) (gathered v lost) i w → get_or (set w i x) k 0 + x ≤ 5120000000
  carried_small lost k w x b e p =
      rw e (left_small v lost r i k b.later b.within _ (carried_whole 64 (downstream v) (gathered v lost) i w (omega (arith, r.few)) p))

  -- What has arrived at the unit below, with the contribution of unit i.
  pub arrived_within : (k : ℕ) (w : List ℕ) (own : ℕ) → Onward v i k → own ≡ contribution v i
      → Arrived 64 (downstream v) (contribution v) i w → get_or w k 0 + own ≤ 2600000000
  arrived_within k w own b e p =
      let below = below_of v r i h (λ g. omega (arith, b.next)) in
      let at : pred (downstream v i) ≡ k = omega (arith, b.next, below.next) in
      omega (
        arith,
        p.each k (omega (arith, b.within, r.few)),
        rw at at (running_within v i below),
        total_small v r k b.within,
      )

  -- The amount of an outlet goes nowhere.
  pub passed_out : (a : Amounts) (more less : ℕ) → more ≡ gathered v false i → less ≡ gathered v true i → downstream v i ≡ 0 → Passed v i a
      → Passed v (suc i) (record { gained = set a.gained i more; lost = set a.lost i less; before = a.before; arrived = a.arrived })
  passed_out a more less g l e p =
      record {
        gained = rw g (whole_out 64 _ _ i _ e (carried_whole 64 _ _ i a.gained (omega (arith, r.few)) p.gained));
        lost = rw l (whole_out 64 _ _ i _ e (carried_whole 64 _ _ i a.lost (omega (arith, r.few)) p.lost));
        before = filled_keep 64 0 (running_before v) i a.before (rw (eq-eqb (downstream v i) 0 e)) p.before;
        arrived = arrived_out 64 (downstream v) (contribution v) i a.arrived e p.arrived;
      }

  -- The amounts of another unit are added to what has been carried to the unit that it drains into.
  pub passed_on : (a : Amounts) (k more less own : ℕ) → more ≡ gathered v false i → less ≡ gathered v true i → own ≡ contribution v i
      → Onward v i k → Passed v i a
      → Passed v (suc i)
      (record {
        gained = set (set a.gained i more) k (get_or (set a.gained i more) k 0 + more);
        lost = set (set a.lost i less) k (get_or (set a.lost i less) k 0 + less);
        before = set a.before i (get_or a.arrived k 0);
        arrived = set a.arrived k (get_or a.arrived k 0 + own);
      })
  passed_on a k more less own g l o b p =
      let few : i < 64 = omega (arith, r.few) in
      let in_place : k < 64 = omega (arith, b.within, r.few) in
      record {
        gained = rw g (whole_on 64 _ _ i k _ b.next b.later in_place (carried_whole 64 _ _ i a.gained few p.gained));
        lost = rw l (whole_on 64 _ _ i k _ b.next b.later in_place (carried_whole 64 _ _ i a.lost few p.lost));
        before = filled_put 64 0 (running_before v) i a.before _ few (p.arrived.each k in_place ∙ found) p.before;
        arrived = rw o (arrived_on 64 (downstream v) (contribution v) i k a.arrived b.next in_place p.arrived);
      }
    where
      found : running_total v k i ≡ running_before v i
      found =
          let at : k ≡ pred (downstream v i) = omega (arith, b.next) in
          rw (ne_eqb (downstream v i) 0 (omega (arith, b.next))) (ap (λ (w : ℕ). running_total v w i) at)

-- When all units are passed, the amounts are those of the forward pass.
pub passed_all : (v : View) → Ready v → (a : Amounts) → Passed v v.units a → Flows v a
passed_all v r a p =
    record {
      gained = carried_gathered v false r _ p.gained;
      lost = carried_gathered v true r _ p.lost;
      totals =
          record {
            long_before = p.before.long;
            long_arrived = p.arrived.long;
            each_before = p.before.done;
            each_arrived = λ w h.
                p.arrived.each w (omega (arith, r.few))
                ∙ arriving_stays (downstream v) (contribution v) v.units v.units w (tree v r) (omega arith) (omega arith);
            rest_before = p.before.rest;
            rest_arrived = rest_none v (contribution v) r a.arrived p.arrived.long (λ w h. p.arrived.each w);
          };
    }
