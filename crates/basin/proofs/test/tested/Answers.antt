-- `basin::tested` meets its contract. Assumes nothing.
use Prim.Native.Nat.{◌≤◌}
use mathlib.Core.Path.{◌≡◌, refl, ap, ◌∙◌}
use native.Mathlib.Omega.{arith}
use mathlib.Core.Bool.{Bool, false, true, ◌&&◌}
use Rattle.std.specs.Prelude.{is_some, IfSome}
use Rattle.std.specs.Bool.{then_some}
use lib.ListN.{take, length, length-take}
use Rattle.model.specs.View.{View, view_of}
use Rattle.river.specs.Flow.{Ready}
use Rattle.river.specs.Passes.{Flows}
use Rattle.river.specs.Units.{units_of}
use Rattle.river.proofs.Units.{SameUnits, counted_units, ready_same}
use Rattle.basin.specs.Sound.{sound, sound_counts, entries_hold}
use Rattle.basin.proofs.Chains.{stop_call, go_call, call_holds}
use Rattle.basin.proofs.Order.{Few, few_of, entries_ready, none_negative, in_order_lem}
use Rattle.basin.proofs.test.tested.Goals as goal
use Rattle.basin.proofs.test.tested.Goals.{Else-not-counts_sound, Else-not-entries_hold, After-flowing, then-not-counts_sound-via-then-not-counts_sound, then-not-counts_sound-via-else-not-counts_sound+then-not-entries_hold}

-- The view of the balance, and that the counts are within their limits.
abbrev counted : Else-not-counts_sound → View
counted c = view_of c.args.b.now

counts-hold : (c : Else-not-counts_sound) → sound_counts (counted c) ≡ true
counts-hold c = call_holds c.counts_sound.ensures c.if-not-counts_sound.false

few : (c : Else-not-counts_sound) → Few (counted c)
few c = few_of (counted c) (counts-hold c)

-- What is left of the tests there.
past-counts : (c : Else-not-counts_sound) (r x : Bool) → r ≡ x → r ≡ (sound_counts (counted c) && x)
past-counts c r x e = go_call _ _ x r c.counts_sound.ensures c.if-not-counts_sound.false e

pub entries_hold-requires : goal.entries_hold-requires
entries_hold-requires c = counts-hold (goal.at.entries_hold-requires c).Else-not-counts_sound

pub returns-then-not-counts_sound : goal.returns-then-not-counts_sound
returns-then-not-counts_sound c = elim c.then-not-counts_sound.branch [
  | then-not-counts_sound-via-then-not-counts_sound w ↦ record {
    value = in_order_lem _ _ (stop_call _ _ _ c.counts_sound.ensures w.if-not-counts_sound.true);
    amounts = tt;
  }
  | then-not-counts_sound-via-else-not-counts_sound+then-not-entries_hold w ↦ record {
    value = in_order_lem _ _
        (go_call _ _ _ _ c.counts_sound.ensures w.if-not-counts_sound.false (stop_call _ _ _ w.entries_hold.ensures w.if-not-entries_hold.true));
    amounts = tt;
  }
]

-- The same where the entries hold.
abbrev held : Else-not-entries_hold → View
held c = counted (goal.at.Else-not-entries_hold c).Else-not-counts_sound

entries-held : (c : Else-not-entries_hold) → entries_hold (held c) ≡ true
entries-held c = call_holds c.entries_hold.ensures c.if-not-entries_hold.false

ready : (c : Else-not-entries_hold) → Ready (held c)
ready c = entries_ready (held c) (few (goal.at.Else-not-entries_hold c).Else-not-counts_sound) (entries-held c)

-- The counted units are those of the balance.
same : (c : Else-not-entries_hold) → c.args.b.now.unit_count ≤ length c.args.b.now.units
    → SameUnits (held c) (units_of (take c.args.b.now.unit_count c.args.b.now.units))
same c enough = counted_units (held c) c.args.b.now.units enough (λ k h. refl)

pub new-requires : goal.new-requires
new-requires c =
    let here = (goal.at.new-requires c).Else-not-entries_hold in
    let f = few (goal.at.new-requires c).Else-not-counts_sound in
    let b = c.args.b.now in
    ready_same _ _ (same here (omega (arith, f.units, length-take b.unit_count b.units))) (ready here)

-- The amounts are those of the counted units.
flows : (c : After-flowing) → Flows (units_of (take c.args.b.now.unit_count c.args.b.now.units)) c.of-amounts.result
flows c = rw c.new.ensures at c.of-amounts.ensures

pub flowing-requires : goal.flowing-requires
flowing-requires c = (ready (goal.at.flowing-requires c).Else-not-entries_hold).few

-- The test of the flows, by what the forward pass gives.
tested-flows : (c : After-flowing) → c.flowing.result ≡ sound (held (goal.at.After-flowing c).Else-not-entries_hold)
tested-flows c =
    let b = c.args.b.now in
    let here = (goal.at.After-flowing c).Else-not-entries_hold in
    let f = few (goal.at.After-flowing c).Else-not-counts_sound in
    in_order_lem _ _
    (past-counts (goal.at.After-flowing c).Else-not-counts_sound _ _
    (go_call _ _ _ _ c.entries_hold.ensures c.if-not-entries_hold.false
    (c.flowing.ensures ∙ none_negative _ _ (same here (omega (arith, f.units, length-take b.unit_count b.units))) _ _ (flows c).gained (flows c).lost)))

-- What is handed back is there if the test says so, and is then what stands beside it.
there : {A : Type 0} (b : Bool) (x : A) → is_some (then_some b x) ≡ b
there true x = refl
there false x = refl

held-by : {A : Type 0} (P : A → Type 0) (b : Bool) (x : A) → P x → IfSome (then_some b x) P
held-by P true x p = p
held-by P false x p = tt

pub returns : goal.returns
returns c =
    let t = (goal.at.returns c).After-flowing in
    record {
      value = ap is_some c.then_some.ensures ∙ there _ _ ∙ tested-flows t;
      amounts = rw c.then_some.ensures (held-by (Flows (units_of (take c.args.b.now.unit_count c.args.b.now.units))) c.flowing.result c.of-amounts.result (flows t));
    }
