-- Laws of committed volume and own reserve. Assumes nothing.
use Prim.Native.Nat.{ℕ, zero, suc, pred, ◌+◌, ◌-◌, ◌*◌, ◌≤◌, ◌<◌}
use mathlib.Core.Path.{◌≡◌, refl, sym, ap, ◌∙◌}
use mathlib.Core.Logic.{⊎_elim}
use mathlib.Core.Bool.{Bool, true, false, cond}
use lib.Dec.{eqb}
use borrow.Author.Tests.{eq-eqb, ne_eqb}
use native.Mathlib.Nat.{mul-le-mul_right}
use native.Mathlib.Omega.{arith}
use Rattle.laws.specs.Sum.{naturals, integers, sum_of, only}
use Rattle.laws.specs.Gather.{arriving}
use Rattle.laws.proofs.Cases.{by_eq}
use lib.IntN.{ℤ}
use lib.Signed.{non_neg}
use Rattle.laws.proofs.Parts.{Less, less_monus, less_above, less_plus, non_neg_true}
use Rattle.laws.proofs.Gathering.{sum_prefix, sum_monotone, related_arriving}
use Rattle.laws.proofs.Splitting.{floor_le}
use Rattle.model.specs.View.{View}
use Rattle.river.specs.Flow.{downstream, flow, gain, loss, gathered, Ready}
use Rattle.river.specs.Reserve.{contribution, running_total, total, demand, share, share_above, committed_to, committed}
use Rattle.river.specs.Passes.{Splits}
use Rattle.river.proofs.Flows.{flow_is, flow_parts, net_parts, gathered_is, gathered_small}

-- A unit contributes what it gathers less what it loses.
pub contribution_is : (v : View) (j : ℕ) → contribution v j ≡ gathered v false j - gathered v true j
contribution_is v j = less_monus (flow_parts v j)

contribution_within : (v : View) (j : ℕ) → contribution v j ≤ gathered v false j
contribution_within v j = less_above (flow_parts v j)

-- Where no unit before unit i has a negative flow, the flow of unit i is what these contribute to it and what it gains, less what it loses.
pub flow_reached : (v : View) (i : ℕ) → ((k : ℕ) → k < i → non_neg (flow v k) ≡ true)
    → Less (flow v i) (arriving naturals (downstream v) (contribution v) i i + gain (v.unit i)) (loss (v.unit i))
flow_reached v i h =
    let p =
    related_arriving integers naturals naturals (λ (z : ℤ) (a b : ℕ). Less z a 0) (record { parts = refl })
    (λ a a' b b' c c' p q. less_plus p q) (downstream v) i i (flow v) (contribution v) (contribution v)
    (λ k g. record { parts = omega (arith, non_neg_true (flow v k) (h k g)) }) in
    let q = less_plus p (net_parts (v.unit i)) in
    rw (flow_is v i) (record { parts = omega (arith, q.parts) })

only_within : (t : Bool) (a b : ℕ) → a ≤ b → only naturals t a ≤ only naturals t b
only_within true a b h = h
only_within false a b h = omega arith

-- The total of a unit's contributors is small.
pub total_small : (v : View) → Ready v → (w : ℕ) → w < v.units → total v w ≤ 2600000000
total_small v r w h =
    omega (
      arith,
      sum_monotone w
          (λ k. only naturals (eqb (downstream v k) (suc w)) (contribution v k))
          (λ k. only naturals (eqb (downstream v k) (suc w)) (gathered v false k))
          (λ k g. only_within (eqb (downstream v k) (suc w)) _ _ (contribution_within v k)),
      gathered_is v false w,
      gathered_small v false r w h,
      r.gains w h,
    )

-- The place of the downstream unit of a unit that is no outlet.
pub record Below (v : View) (j : ℕ) : Type 0 where
  pub next : downstream v j ≡ suc (pred (downstream v j))
  pub later : j < pred (downstream v j)
  pub within : pred (downstream v j) < v.units

pub below_of : (v : View) → Ready v → (j : ℕ) → j < v.units → (downstream v j ≡ 0 → ⊥) → Below v j
below_of v r j h e =
    ⊎_elim
    (λ g. absurd (e g))
    (λ g. record { next = omega arith; later = omega arith; within = omega (arith, r.within j h) })
    (r.onward j h)

-- The running total with a unit is at most the total.
pub running_within : (v : View) (j : ℕ) → Below v j
    → running_total v (pred (downstream v j)) j + contribution v j ≤ total v (pred (downstream v j))
unfolding sum_of
running_within v j b =
    let w = pred (downstream v j) in
    omega (
      arith,
      sum_prefix (suc j) w (λ k. only naturals (eqb (downstream v k) (suc w)) (contribution v k)) b.later,
      only_same w (downstream v j) (contribution v j) b.next,
    )
  where
    only_same : (w d a : ℕ) → d ≡ suc w → only naturals (eqb d (suc w)) a ≡ a
    only_same w d a e = rw (eq-eqb d (suc w) e)

share_within : (D T B x : ℕ) → B + x ≤ T → cond (eqb T 0) 0 (share D T B (B + x)) ≤ D
share_within D T B x h =
    by_eq T 0
    (λ e. rw (eq-eqb T 0 e) (omega arith))
    (λ e. rw (ne_eqb T 0 e) (omega (arith, floor_le D (B + x) T (omega arith) h)))

-- What a unit above gets is no more than the demand.
above_within : (v : View) (j D : ℕ) → Below v j → share_above v (pred (downstream v j)) D j ≤ D
above_within v j D b = share_within D (total v (pred (downstream v j))) (running_total v (pred (downstream v j)) j) (contribution v j) (running_within v j b)

-- Of an outlet, and of another unit, along a way of any length.
pub to_outlet : (v : View) (way j : ℕ) → downstream v j ≡ 0 → committed_to v way j ≡ (v.unit j).commitment
unfolding committed_to
to_outlet v zero j e = refl
to_outlet v (suc way) j e = rw (eq-eqb (downstream v j) 0 e)

pub to_next : (v : View) (way j : ℕ) → (downstream v j ≡ 0 → ⊥)
    → committed_to v (suc way) j
    ≡ share_above v (pred (downstream v j)) (demand (v.unit (pred (downstream v j))) (committed_to v way (pred (downstream v j)))) j
unfolding committed_to
to_next v way j e = rw (ne_eqb (downstream v j) 0 e)

to_small : (v : View) → Ready v → (way j : ℕ) → j < v.units → committed_to v way j ≤ 10000000 + way * 40000000
unfolding committed_to
to_small v r zero j h = omega (arith, r.commitments j h)
to_small v r (suc way) j h =
    by_eq (downstream v j) 0
    (λ e. omega (arith, to_outlet v (suc way) j e, r.commitments j h))
    (λ e.
    let b = below_of v r j h e in
    let w = pred (downstream v j) in
    omega (arith, to_next v way j e, above_within v j (demand (v.unit w) (committed_to v way w)) b, to_small v r way w b.within, r.losses w b.within))

-- A longer way than there are units changes nothing.
to_longer : (v : View) → Ready v → (f g j : ℕ) → j < v.units → v.units ≤ f + j → v.units ≤ g + j → committed_to v f j ≡ committed_to v g j
to_longer v r zero g j h p q = absurd (omega arith)
to_longer v r (suc f) zero j h p q = absurd (omega arith)
to_longer v r (suc f) (suc g) j h p q =
    by_eq (downstream v j) 0
    (λ e. to_outlet v (suc f) j e ∙ sym (to_outlet v (suc g) j e))
    (λ e.
    let b = below_of v r j h e in
    let w = pred (downstream v j) in
    to_next v f j e
    ∙ ap (λ (c : ℕ). share_above v w (demand (v.unit w) c) j) (to_longer v r f g w b.within (omega (arith, b.later)) (omega (arith, b.later)))
    ∙ sym (to_next v g j e))

-- An outlet's committed volume is its commitment.
pub committed_outlet : (v : View) (j : ℕ) → downstream v j ≡ 0 → committed v j ≡ (v.unit j).commitment
unfolding committed
committed_outlet v j e = to_outlet v v.units j e

-- What a unit above gets of its downstream unit's demand is its committed volume.
pub committed_share : (v : View) → Ready v → (j : ℕ) → j < v.units → (downstream v j ≡ 0 → ⊥)
    → committed v j
    ≡ share_above v (pred (downstream v j)) (demand (v.unit (pred (downstream v j))) (committed v (pred (downstream v j)))) j
unfolding committed
committed_share v r j h e =
    let b = below_of v r j h e in
    to_longer v r v.units (suc v.units) j h (omega arith) (omega arith) ∙ to_next v v.units j e

pub committed_small : (v : View) → Ready v → (j : ℕ) → j < v.units → committed v j ≤ 2570000000
unfolding committed
committed_small v r j h = omega (arith, to_small v r v.units j h, r.few, mul-le-mul_right 40000000 r.few)

-- The demand of a unit and the total of its contributors are small enough to be split.
pub splits : (v : View) → Ready v → (j : ℕ) → j < v.units → Splits (v.unit j) (committed v j) (running_total v j j)
splits v r j h =
    record {
      promised = committed_small v r j h;
      asked = omega (arith, committed_small v r j h, r.losses j h);
      small = omega (arith, total_small v r j h);
    }
