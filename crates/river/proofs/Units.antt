-- What is worked out over the units of a view depends on its units alone. Assumes nothing.
use Prim.Native.Nat.{ℕ, zero, suc, pred, ◌+◌, ◌≤◌, ◌<◌}
use mathlib.Core.Path.{◌≡◌, refl, sym, ap, ◌∙◌}
use mathlib.Core.Bool.{not, cond}
use mathlib.Core.List.{List}
use lib.Dec.{eqb}
use lib.ListN.{length, get_or, take, length-take}
use lib.IntN.{ℤ}
use lib.Signed.{non_neg}
use lib.Seq.{get_or-take}
use native.Mathlib.Omega.{arith}
use Rattle.laws.specs.Signed.{above}
use Rattle.laws.specs.Sum.{naturals, integers, only}
use Rattle.laws.specs.Gather.{arriving}
use Rattle.laws.proofs.Cases.{by_eq}
use Rattle.laws.proofs.Gathering.{sum_same}
use Rattle.model.specs.declared.Unit.{Unit}
use Rattle.model.specs.Answers.{first}
use Rattle.model.specs.Fresh.{empty_unit, empty_aquifer, empty_place}
use Rattle.model.specs.View.{View}
use Rattle.river.specs.Flow.{downstream, net, flow, Ready}
use Rattle.river.specs.Reserve.{contribution, inflow, running_total, demand, share, share_above, share_own, committed_to, committed, own_reserve}
use Rattle.river.specs.Units.{units_of}
use Rattle.river.proofs.Firsts.{first_same}
use Rattle.river.proofs.Local.{same_gather}
use Rattle.river.proofs.Reserves.{below_of, to_outlet, to_next}

-- Two views with the same units: as many, and each the same.
pub record SameUnits (v w : View) : Type 0 where
  pub count : w.units ≡ v.units
  pub unit : (k : ℕ) → k < v.units → w.unit k ≡ v.unit k

-- The counted units of an array are the units of any view that counts so many of the array.
pub counted_units : (v : View) (us : List Unit) → v.units ≤ length us → ((k : ℕ) → k < v.units → v.unit k ≡ get_or us k empty_unit)
    → SameUnits v (units_of (take v.units us))
counted_units v us h e =
    record {
      count = omega (arith, length-take v.units us);
      unit = λ k g. get_or-take v.units us k empty_unit g ∙ sym (e k g);
    }

-- The units that a tree gives are its value.
pub ready_at : {us ws : List Unit} → us ≡ ws → Ready (units_of us) → Ready (units_of ws)
ready_at e r = rw e at r

-- Two views whose units drain alike, and add, contribute, demand and promise alike.
pub record AlikeUnits (v w : View) : Type 0 where
  pub count : w.units ≡ v.units
  pub drains : (k : ℕ) → k < v.units → downstream w k ≡ downstream v k
  pub adds : (k : ℕ) → k < v.units → net (w.unit k) ≡ net (v.unit k)
  pub gives : (k : ℕ) → k < v.units → inflow (w.unit k) ≡ inflow (v.unit k)
  pub asks : (k : ℕ) → k < v.units → (c : ℕ) → demand (w.unit k) c ≡ demand (v.unit k) c
  pub promises : (k : ℕ) → k < v.units → (w.unit k).commitment ≡ (v.unit k).commitment

pub alike_of : (v w : View) → SameUnits v w → AlikeUnits v w
alike_of v w s =
    record {
      count = s.count;
      drains = λ k h. ap (λ (u : Unit). u.downstream) (s.unit k h);
      adds = λ k h. ap net (s.unit k h);
      gives = λ k h. ap inflow (s.unit k h);
      asks = λ k h c. ap (λ (u : Unit). demand u c) (s.unit k h);
      promises = λ k h. ap (λ (u : Unit). u.commitment) (s.unit k h);
    }

-- The flows, committed volumes and own reserves over such views are the same.
module _ (v w : View) (s : AlikeUnits v w) where
  pub flow_alike : (j : ℕ) → j < v.units → flow w j ≡ flow v j
  unfolding flow
  flow_alike j h =
      same_gather integers (downstream w) (downstream v) _ _ j (λ k g. s.drains k (omega arith)) (λ k g. s.adds k (omega arith))

  running_alike : (k j : ℕ) → j ≤ v.units → running_total w k j ≡ running_total v k j
  running_alike k j h =
      sum_same naturals j _ _
      (λ l g. ap (λ (d : ℕ). only naturals (eqb d (suc k)) (contribution w l)) (s.drains l (omega arith))
      ∙ ap (λ (z : ℤ). only naturals (eqb (downstream v l) (suc k)) (above z)) (flow_alike l (omega arith)))

  -- What a unit gets, of the demand of the unit below it and of its own.
  above_alike : (k D j : ℕ) → k < v.units → j < v.units → share_above w k D j ≡ share_above v k D j
  above_alike k D j h g = λ i.
      cond (eqb (running_alike k k (omega arith) i + s.gives k h i) 0) 0
      (share D (running_alike k k (omega arith) i + s.gives k h i) (running_alike k j (omega arith) i)
      (running_alike k j (omega arith) i + above (flow_alike j g i)))

  own_alike : (k D : ℕ) → k < v.units → share_own w k D ≡ share_own v k D
  own_alike k D h = λ i.
      cond (eqb (running_alike k k (omega arith) i + s.gives k h i) 0) D
      (share D (running_alike k k (omega arith) i + s.gives k h i) (running_alike k k (omega arith) i)
      (running_alike k k (omega arith) i + s.gives k h i))

  to_alike : Ready v → (way j : ℕ) → j < v.units → committed_to w way j ≡ committed_to v way j
  unfolding committed_to
  to_alike r zero j h = s.promises j h
  to_alike r (suc way) j h =
      by_eq (downstream v j) 0
      (λ e. to_outlet w (suc way) j (s.drains j h ∙ e) ∙ s.promises j h ∙ sym (to_outlet v (suc way) j e))
      (λ e.
      let k = pred (downstream v j) in
      let b = below_of v r j h e in
      to_next w way j (λ g. e (sym (s.drains j h) ∙ g))
      ∙ ap (λ (d : ℕ). share_above w (pred d) (demand (w.unit (pred d)) (committed_to w way (pred d))) j) (s.drains j h)
      ∙ ap (λ (d : ℕ). share_above w k d j) (s.asks k b.within (committed_to w way k))
      ∙ ap (λ (c : ℕ). share_above w k (demand (v.unit k) c) j) (to_alike r way k b.within)
      ∙ above_alike k (demand (v.unit k) (committed_to v way k)) j b.within h
      ∙ sym (to_next v way j e))

  pub committed_alike : Ready v → (j : ℕ) → j < v.units → committed w j ≡ committed v j
  unfolding committed
  committed_alike r j h = ap (λ (m : ℕ). committed_to w m j) s.count ∙ to_alike r v.units j h

  pub reserve_alike : Ready v → (j : ℕ) → j < v.units → own_reserve w j ≡ own_reserve v j
  reserve_alike r j h =
      ap (share_own w j) (s.asks j h (committed w j))
      ∙ ap (λ (c : ℕ). share_own w j (demand (v.unit j) c)) (committed_alike r j h)
      ∙ own_alike j (demand (v.unit j) (committed v j)) h

module _ (v w : View) (s : SameUnits v w) where
  pub flow_same : (j : ℕ) → j < v.units → flow w j ≡ flow v j
  flow_same = flow_alike v w (alike_of v w s)

  -- The lowest-numbered unit with a negative flow.
  pub negative_same : first w.units (λ j. not (non_neg (flow w j))) ≡ first v.units (λ j. not (non_neg (flow v j)))
  negative_same =
      ap (λ (n : ℕ). first n (λ j. not (non_neg (flow w j)))) s.count
      ∙ first_same v.units _ _ (λ k h. ap (λ (z : ℤ). not (non_neg z)) (flow_same k h))

  pub ready_same : Ready v → Ready w
  ready_same r =
      let a = alike_of v w s in
      record {
        few = omega (arith, s.count, r.few);
        onward = λ k h. rw (a.drains k (omega (arith, s.count))) (r.onward k (omega (arith, s.count)));
        within = λ k h. rw (a.drains k (omega (arith, s.count)), s.count) (r.within k (omega (arith, s.count)));
        gains = λ k h. rw (s.unit k (omega (arith, s.count))) (r.gains k (omega (arith, s.count)));
        losses = λ k h. rw (s.unit k (omega (arith, s.count))) (r.losses k (omega (arith, s.count)));
        commitments = λ k h. rw (s.unit k (omega (arith, s.count))) (r.commitments k (omega (arith, s.count)));
      }

-- A view without its aquifers and titles.
abbrev pub alone : View → View
alone v =
    record {
      units = v.units;
      unit = v.unit;
      aquifers = 0;
      aquifer = λ k. empty_aquifer;
      given = 0;
      place = λ k. empty_place;
    }

pub ready_alone : (v : View) → Ready v → Ready (alone v)
ready_alone v r =
    record {
      few = r.few;
      onward = r.onward;
      within = r.within;
      gains = r.gains;
      losses = r.losses;
      commitments = r.commitments;
    }

pub flow_alone : (v : View) (j : ℕ) → flow (alone v) j ≡ flow v j
unfolding flow
flow_alone v j = refl

running_alone : (v : View) (w j : ℕ) → running_total (alone v) w j ≡ running_total v w j
running_alone v w j = λ i. arriving naturals (downstream v) (λ k. above (flow_alone v k i)) j w

above_alone : (v : View) (w D j : ℕ) → share_above (alone v) w D j ≡ share_above v w D j
above_alone v w D j = λ i.
    cond (eqb (running_alone v w w i + inflow (v.unit w)) 0) 0
    (share D (running_alone v w w i + inflow (v.unit w)) (running_alone v w j i) (running_alone v w j i + above (flow_alone v j i)))

own_alone : (v : View) (w D : ℕ) → share_own (alone v) w D ≡ share_own v w D
own_alone v w D = λ i.
    cond (eqb (running_alone v w w i + inflow (v.unit w)) 0) D
    (share D (running_alone v w w i + inflow (v.unit w)) (running_alone v w w i) (running_alone v w w i + inflow (v.unit w)))

to_alone : (v : View) (way j : ℕ) → committed_to (alone v) way j ≡ committed_to v way j
unfolding committed_to
to_alone v zero j = refl
to_alone v (suc way) j =
    let w = pred (downstream v j) in
    ap (λ (c : ℕ). cond (eqb (downstream v j) 0) (v.unit j).commitment c)
    (above_alone v w (demand (v.unit w) (committed_to (alone v) way w)) j
    ∙ ap (λ (c : ℕ). share_above v w (demand (v.unit w) c) j) (to_alone v way w))

pub committed_alone : (v : View) (j : ℕ) → committed (alone v) j ≡ committed v j
unfolding committed
committed_alone v j = to_alone v v.units j

pub reserve_alone : (v : View) (j : ℕ) → own_reserve (alone v) j ≡ own_reserve v j
reserve_alone v j =
    own_alone v j (demand (v.unit j) (committed (alone v) j))
    ∙ ap (λ (c : ℕ). share_own v j (demand (v.unit j) c)) (committed_alone v j)
