-- Laws of flow and of its two natural parts. Assumes nothing.
use Prim.Native.Nat.{ℕ, suc, ◌+◌, ◌≤◌, ◌<◌}
use mathlib.Core.Path.{◌≡◌, refl}
use mathlib.Core.Bool.{Bool, true, false}
use native.Mathlib.Omega.{arith}
use lib.IntN.{◌+ℤ◌}
use lib.Signed.{◌≤ℤ◌}
use Rattle.laws.specs.Sum.{naturals, integers}
use Rattle.laws.specs.Gather.{arriving}
use Rattle.laws.proofs.Gathering.{Tree, gather_is, gather_within, related_gather, sum_bounded, sum_prefix}
use Rattle.model.specs.View.{View}
use Rattle.laws.proofs.Parts.{Less, less_pos, less_self, less_plus, less_minus, parts_le}
use Rattle.model.specs.declared.Unit.{Unit}
use Rattle.model.specs.Entries.{with_entries}
use Rattle.river.specs.Flow.{downstream, net, flow, part, gain, loss, gathered, Ready, Small}

pub tree : (v : View) → Ready v → Tree (downstream v) v.units
tree v r = record { onward = r.onward }

-- The sentence of 4.2.2: flow of a unit = flows of the units that drain straight into it + what it adds by itself.
pub flow_is : (v : View) (j : ℕ) → flow v j ≡ arriving integers (downstream v) (flow v) j j +ℤ net (v.unit j)
unfolding flow
flow_is v j = gather_is integers (downstream v) (λ k. net (v.unit k)) j

-- The same for each of the two parts.
pub gathered_is : (v : View) (lost : Bool) (j : ℕ)
    → gathered v lost j ≡ arriving naturals (downstream v) (gathered v lost) j j + part lost (v.unit j)
unfolding gathered
gathered_is v lost j = gather_is naturals (downstream v) (λ k. part lost (v.unit k)) j

part_small : (v : View) (lost : Bool) → Ready v → (k : ℕ) → k < v.units → part lost (v.unit k) ≤ 40000000
part_small v true r k h = r.losses k h
part_small v false r k h = r.gains k h

pub small : (v : View) → Ready v → (k : ℕ) → k < v.units → Small (v.unit k)
small v r k h = record { rise = omega (arith, r.losses k h); fall = omega (arith, r.gains k h) }

pub gathered_small : (v : View) (lost : Bool) → Ready v → (j : ℕ) → j < v.units → gathered v lost j ≤ 2560000000
unfolding gathered
gathered_small v lost r j h =
    omega (
      arith,
      gather_within (downstream v) (λ k. part lost (v.unit k)) j (record { onward = λ k g. r.onward k (omega arith) }),
      sum_bounded (suc j) 40000000 (λ k. part lost (v.unit k)) (λ k g. part_small v lost r k (omega arith)),
      r.few,
    )

arriving_prefix : (v : View) (lost : Bool) (i j : ℕ) → i ≤ j
    → arriving naturals (downstream v) (gathered v lost) i j ≤ arriving naturals (downstream v) (gathered v lost) j j
arriving_prefix v lost i j h = sum_prefix i j _ h

-- What has arrived at a later unit is part of what that unit gathers.
pub arrived_small : (v : View) (lost : Bool) → Ready v → (i j : ℕ) → i ≤ j → j < v.units
    → arriving naturals (downstream v) (gathered v lost) i j ≤ 2560000000
arrived_small v lost r i j h g =
    omega (arith, arriving_prefix v lost i j h, gathered_is v lost j, gathered_small v lost r j g)

-- What a unit adds by itself is what it gains less what it loses.
pub net_parts : (u : Unit) → Less (net u) (gain u) (loss u)
net_parts u =
    let p = less_minus (less_minus (less_minus (less_minus (less_plus (less_plus (less_pos u.runoff) (less_pos u.returns))
    (less_pos u.imports)) (less_pos u.exports)) (less_pos u.extraction)) (less_pos u.evaporation)) (less_self u.storage) in
    record { parts = omega (arith, p.parts) }

-- A unit that loses no more and gains no less, all else being as it was, adds no less to the river.
pub net_no_less : (u : Unit) (extraction exports imports returns : ℕ) → extraction ≤ u.extraction → exports ≤ u.exports
    → u.imports ≤ imports → u.returns ≤ returns → net u ≤ℤ net (with_entries u extraction exports imports returns)
net_no_less u e x i b p q r s =
    let m = net_parts u in
    let n = net_parts (with_entries u e x i b) in
    parts_le (net u) (net (with_entries u e x i b)) (omega (arith, m.parts, n.parts))

-- Flow is what is gained at a unit and above it, less what is lost there.
pub flow_parts : (v : View) (j : ℕ) → Less (flow v j) (gathered v false j) (gathered v true j)
unfolding flow gathered
flow_parts v j =
    related_gather integers naturals naturals Less (record { parts = refl }) (λ a a' b b' c c' p q. less_plus p q)
    (downstream v) (λ k. net (v.unit k)) (λ k. gain (v.unit k)) (λ k. loss (v.unit k)) j (λ k h. net_parts (v.unit k))
