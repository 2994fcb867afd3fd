-- The reserves lose no water: all own reserves together are what is asked of the river. Assumes nothing.
use Prim.Native.Nat.{ℕ, zero, suc, pred, ◌+◌, ◌<◌}
use mathlib.Core.Path.{◌≡◌, refl, sym, ap, ◌∙◌}
use lib.Dec.{eqb}
use native.Mathlib.Omega.{arith}
use borrow.Author.Tests.{ne_eqb}
use Rattle.laws.specs.Sum.{naturals, sum_of, only}
use Rattle.laws.specs.Gather.{arriving}
use Rattle.laws.proofs.Cases.{by_eq}
use Rattle.laws.proofs.Gathering.{Tree, passes, split_only, passing, sum_same, sum_plus}
use Rattle.model.specs.View.{View}
use Rattle.river.specs.Flow.{downstream, Ready}
use Rattle.river.specs.Reserve.{demand, share_above, committed, own_reserve}
use Rattle.river.proofs.Flows.{tree}
use Rattle.river.proofs.Reserves.{committed_outlet, committed_share}
use Rattle.conservation.proofs.Shares.{shares_above, shares_add_up}
use Rattle.conservation.proofs.Outlets.{outlets_pass}

-- What arrives at the first n places and what is on the way after them is what these places send.
pub arrive_or_pass : (down x : ℕ → ℕ) (n : ℕ) → Tree down n
    → sum_of naturals n (λ w. arriving naturals down x w w) + sum_of naturals n (λ k. only naturals (passes down n k) (x k))
    ≡ sum_of naturals n x
unfolding sum_of
arrive_or_pass down x zero t = refl
arrive_or_pass down x (suc n) t =
    omega (
      arith,
      arrive_or_pass down x n (record { onward = λ k h. t.onward k (omega arith) }),
      sum_same naturals n _ _ (λ k h. split_only n (down k) (x k)),
      sum_plus n (λ k. only naturals (eqb (down k) (suc n)) (x k)) (λ k. only naturals (passes down (suc n) k) (x k)),
      passing n (down n) (x n) (t.onward n (omega arith)),
    )

module _ (v : View) (r : Ready v) where
  -- The committed volume of a unit that drains into unit w is its share of the demand of w.
  committed_of : (w k : ℕ) → k < v.units → downstream v k ≡ suc w → share_above v w (demand (v.unit w) (committed v w)) k ≡ committed v k
  committed_of w k h e =
      sym (committed_share v r k h (λ z. omega arith) ∙ ap (λ (i : ℕ). share_above v i (demand (v.unit i) (committed v i)) k) (ap pred e))

  -- What the units above get of the demand of unit w is their committed volume.
  shares_committed : (w : ℕ) → w < v.units
      → shares_above v w (demand (v.unit w) (committed v w)) w ≡ arriving naturals (downstream v) (committed v) w w
  shares_committed w h =
      sum_same naturals w _ _
      (λ k g.
      by_eq (downstream v k) (suc w)
      (λ e. ap (only naturals (eqb (downstream v k) (suc w))) (committed_of w k (omega arith) e))
      (λ e. rw (ne_eqb (downstream v k) (suc w) e)))

  own_committed : (w : ℕ) → w < v.units
      → arriving naturals (downstream v) (committed v) w w + own_reserve v w ≡ demand (v.unit w) (committed v w)
  own_committed w h = omega (arith, shares_committed w h, shares_add_up v w (demand (v.unit w) (committed v w)))

  outlets_committed : sum_of naturals v.units (λ j. only naturals (eqb (downstream v j) 0) (committed v j))
      ≡ sum_of naturals v.units (λ j. only naturals (eqb (downstream v j) 0) (v.unit j).commitment)
  outlets_committed =
      sum_same naturals v.units _ _
      (λ j h.
      by_eq (downstream v j) 0
      (λ e. ap (only naturals (eqb (downstream v j) 0)) (committed_outlet v j e))
      (λ e. rw (ne_eqb (downstream v j) 0 e)))

-- All own reserves together are the extractions, the exports, the evaporation and the commitments of the outlets.
pub reserves_add_up : (v : View) → Ready v
    → sum_of naturals v.units (λ j. own_reserve v j)
    ≡ sum_of naturals v.units (λ j. (v.unit j).extraction) + sum_of naturals v.units (λ j. (v.unit j).exports)
    + sum_of naturals v.units (λ j. (v.unit j).evaporation)
    + sum_of naturals v.units (λ j. only naturals (eqb (downstream v j) 0) (v.unit j).commitment)
reserves_add_up v r =
    let n = v.units in
    omega (
      arith,
      sum_plus n (λ w. arriving naturals (downstream v) (committed v) w w) (λ w. own_reserve v w),
      sum_same naturals n _ _ (own_committed v r),
      sum_plus n (λ w. (v.unit w).extraction + (v.unit w).exports + (v.unit w).evaporation) (λ w. committed v w),
      sum_plus n (λ w. (v.unit w).extraction + (v.unit w).exports) (λ w. (v.unit w).evaporation),
      sum_plus n (λ w. (v.unit w).extraction) (λ w. (v.unit w).exports),
      arrive_or_pass (downstream v) (committed v) n (tree v r),
      outlets_pass v r (committed v),
      outlets_committed v r,
    )
