-- A step of the backward pass over the units: a unit's committed volume from its downstream unit's. Assumes nothing.
use Prim.Native.Nat.{ℕ, pred, ◌+◌, ◌-◌, ◌≤◌, ◌<◌}
use mathlib.Core.Path.{◌≡◌, sym, ap}
use lib.ListN.{get_or}
use native.Mathlib.Omega.{arith}
use borrow.Author.Tests.{ne_eqb}
use Rattle.model.specs.View.{View}
use Rattle.river.specs.Flow.{downstream, Ready}
use Rattle.river.specs.Reserve.{inflow, contribution, running_total, committed}
use Rattle.river.specs.declared.flow.Amounts.{Amounts}
use Rattle.river.specs.Passes.{running_before, Flows, Splits, from_below}
use Rattle.river.proofs.Passing.{Onward}
use Rattle.river.proofs.Reserves.{below_of, contribution_is, running_within, committed_share, splits}

-- What unit j gets of the demand of unit w below it, with so much committed and arrived there: the demand can be split, and unit j gets
-- its committed volume.
pub record Share (v : View) (j w volume arrived before own : ℕ) : Type 0 where
  pub split : Splits (v.unit w) volume arrived
  pub within : before + own ≤ arrived + inflow (v.unit w)
  pub gets : from_below (v.unit w) volume arrived before own ≡ committed v j

-- By the definitions.
share_is : (v : View) → Ready v → (j k : ℕ) → j < v.units → Onward v j k
    → Share v j k (committed v k) (running_total v k k) (running_before v j) (contribution v j)
share_is v r j k h b =
    let out : downstream v j ≡ 0 → ⊥ = λ e. omega (arith, b.next) in
    let below = below_of v r j h out in
    let at : pred (downstream v j) ≡ k = omega (arith, b.next) in
    let found : running_before v j ≡ running_total v k j = rw (ne_eqb (downstream v j) 0 out) (ap (λ (w : ℕ). running_total v w j) at) in
    rw found
    (record {
      split = splits v r k b.within;
      within = rw at at (running_within v j below);
      gets = sym (rw at at (committed_share v r j h out));
    })

-- By what the forward pass has left, and the downstream unit's committed volume.
pub share_of : (v : View) → Ready v → (a : Amounts) → Flows v a → (j k : ℕ) → j < v.units → Onward v j k → (volume own : ℕ)
    → volume ≡ committed v k → own ≡ get_or a.gained j 0 - get_or a.lost j 0
    → Share v j k volume (get_or a.arrived k 0) (get_or a.before j 0) own
share_of v r a f j k h b volume own ev eo =
    let own_is : own ≡ contribution v j = omega (arith, f.gained.each j h, f.lost.each j h, contribution_is v j) in
    rw (ev, f.totals.each_arrived k b.within, f.totals.each_before j h, own_is) (share_is v r j k h b)
