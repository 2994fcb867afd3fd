-- The arrays that a decision tries: with a title in, and without one. Assumes nothing.
use Rattle.std.specs.Prelude.{Ok}
use Prim.Native.Nat.{ℕ, ◌+◌, ◌≤◌}
use mathlib.Core.Path.{◌≡◌, refl, sym, ap, subst⁻¹, ◌∙◌}
use mathlib.Core.Bool.{true}
use mathlib.Core.List.{List}
use lib.ListN.{length, take}
use lib.Signed.{non_neg}
use native.Mathlib.Omega.{arith}
use Rattle.laws.specs.Sum.{every}
use Rattle.laws.proofs.Arrays.{length_indexed}
use Rattle.model.specs.declared.Unit.{Unit}
use Rattle.model.specs.declared.Aquifer.{Aquifer}
use Rattle.model.specs.declared.Title.{Title}
use Rattle.model.specs.declared.Balance.{Balance}
use Rattle.model.specs.View.{View, view_of}
use Rattle.river.specs.Flow.{Ready}
use Rattle.river.specs.Units.{units_view, units_of}
use Rattle.river.proofs.Units.{alone, flow_alone, ready_alone, ready_same}
use Rattle.figures.specs.Figures.{WellsReady, aquifers_of}
use Rattle.basin.specs.Sound.{sound, flowing}
use Rattle.basin.proofs.Soundness.{soundness}
use Rattle.titles.specs.Adds.{return_of}
use Rattle.effect.specs.Effect.{changed_unit, changed_aquifer}
use Rattle.effect.specs.Granted.{granted, raised_units, raised_wells, lacking, Sized, Named}
use Rattle.effect.specs.Cancelled.{title_of, cancelled, without_title, lowered_units, Takable}
use Rattle.effect.proofs.Changing.{unit_changed, aquifer_changed, plus_none}
use Rattle.refusal.specs.Grant.{no_water}
use Rattle.refusal.specs.Steps.{early_fault, entries_of, entries_view}
use Rattle.refusal.proofs.Granting.{granting_of, granting_named, granted_ready, granted_wells_ready}
use Rattle.refusal.proofs.Giving.{untitled, early_untitled, water_untitled}
use Rattle.refusal.proofs.Entries.{SameEntries, counted_entries, entries_wells_ready, early_same, water_same}
use Rattle.register.specs.Cancel.{number_in_force}
use Rattle.register.proofs.Replies.{grantable_of}
use Rattle.register.proofs.Cancelling.{in_force_of, takable_in_force, cancelled_view}
use Rattle.register.proofs.Leaving.{cancelled_ready}

-- Units and aquifers in which the water of a title can be looked at.
abbrev pub Trial : List Unit → List Aquifer → Title → Type 0
Trial us ws t = Ready (units_of us) × WellsReady (aquifers_of ws) × Named (entries_of us ws 0) t

-- The counted units and aquifers of a balance are the entries of its view, without the titles.
module _ (b : Balance) (units : b.unit_count ≤ length b.units) (wells : b.aquifer_count ≤ length b.aquifers) (r : Ready (view_of b)) where
  abbrev bare : View
  bare = untitled (view_of b) b.given

  counted : SameEntries bare (entries_of (take b.unit_count b.units) (take b.aquifer_count b.aquifers) b.given)
  counted = counted_entries bare b.units b.aquifers b.given units wells (λ k h. refl) (λ k h. refl)

  bare_ready : Ready bare
  bare_ready = ready_same (view_of b) bare (record { count = refl; unit = λ k h. refl }) r

  -- What a grant refuses early is asked of them.
  pub early_counted : (t : Title)
      → early_fault (entries_of (take b.unit_count b.units) (take b.aquifer_count b.aquifers) b.given) t ≡ early_fault (view_of b) t
  early_counted t = early_same bare _ counted bare_ready refl t ∙ early_untitled (view_of b) t

-- As many units and aquifers are there with a title in.
pub length_raised : (t : Title) (us : List Unit) → length (raised_units t us) ≡ length us
length_raised t us = length_indexed (changed_unit ◌+◌ t (return_of t)) us

pub length_drawn : (t : Title) (ws : List Aquifer) → length (raised_wells t ws) ≡ length ws
length_drawn t ws = length_indexed (changed_aquifer ◌+◌ t (return_of t)) ws

-- The counted units and aquifers with a title in that is not refused early.
module _ (b : Balance) (t : Title) (units : length b.units ≡ 64) (wells : length b.aquifers ≡ 32) (e : sound (view_of b) ≡ true)
    (q : early_fault (view_of b) t ≡ Ok tt) where
  abbrev raised : List Unit
  raised = take b.unit_count (raised_units t b.units)

  abbrev drawn : List Aquifer
  drawn = take b.aquifer_count (raised_wells t b.aquifers)

  same : SameEntries (granted (view_of b) t) (entries_of raised drawn 0)
  same =
      let s = soundness (view_of b) e in
      let g = grantable_of b t e q in
      counted_entries (granted (view_of b) t) (raised_units t b.units) (raised_wells t b.aquifers) 0
      (omega (arith, s.few_units, length_raised t b.units))
      (omega (arith, s.few_aquifers, length_drawn t b.aquifers))
      (λ k h. sym (unit_changed ◌+◌ plus_none lacking t b.units units g.units k))
      (λ k h. sym (aquifer_changed ◌+◌ plus_none lacking t b.aquifers wells g.wells k))

  ready : Ready (granted (view_of b) t)
  ready = granted_ready (view_of b) t (soundness (view_of b) e) (granting_of (view_of b) t q)

  named : Named (granted (view_of b) t) t
  named = granting_named (view_of b) t (granting_of (view_of b) t q)

  -- They can be worked out.
  pub trial : Trial raised drawn t
  trial = (
    ready_same (granted (view_of b) t) _ (record { count = same.units.count; unit = same.units.unit }) ready,
    entries_wells_ready _ raised drawn 0 same (granted_wells_ready (view_of b) t (soundness (view_of b) e) (granting_of (view_of b) t q)),
    rw (same.units.count, same.count) named,
  )

  -- The whole arrays, of which so many count, have the entries of the view with the title granted, whatever its titles.
  abbrev whole : View
  whole = entries_view (raised_units t b.units) b.unit_count (raised_wells t b.aquifers) b.aquifer_count 0

  abbrev bare_granted : View
  bare_granted = untitled (granted (view_of b) t) 0

  whole_same : SameEntries bare_granted whole
  whole_same =
      let g = grantable_of b t e q in
      record {
        units = record { count = refl; unit = λ k h. unit_changed ◌+◌ plus_none lacking t b.units units g.units k };
        count = refl;
        aquifer = λ k h. aquifer_changed ◌+◌ plus_none lacking t b.aquifers wells g.wells k;
      }

  bare_granted_ready : Ready bare_granted
  bare_granted_ready = ready_same (granted (view_of b) t) bare_granted (record { count = refl; unit = λ k h. refl }) ready

  whole_water : no_water whole t ≡ no_water (granted (view_of b) t) t
  whole_water = water_same bare_granted whole whole_same bare_granted_ready t named ∙ water_untitled (granted (view_of b) t) 0 t

-- The water of a title, in the arrays with the title in.
module _ (b : Balance) (t : Title) (us : List Unit) (ws : List Aquifer) (units : length b.units ≡ 64) (wells : length b.aquifers ≡ 32)
    (e : sound (view_of b) ≡ true) (q : early_fault (view_of b) t ≡ Ok tt) (u : us ≡ raised_units t b.units) (w : ws ≡ raised_wells t b.aquifers) where
  pub trial_water : no_water (entries_view us b.unit_count ws b.aquifer_count 0) t ≡ no_water (granted (view_of b) t) t
  trial_water = rw (u, w) (whole_water b t units wells e q)

-- The same in those of them that count.
module _ (b : Balance) (t : Title) (units : length b.units ≡ 64) (wells : length b.aquifers ≡ 32) (e : sound (view_of b) ≡ true)
    (q : early_fault (view_of b) t ≡ Ok tt) where
  counted_whole : SameEntries (whole b t units wells e q) (entries_of (raised b t units wells e q) (drawn b t units wells e q) 0)
  counted_whole =
      let s = soundness (view_of b) e in
      counted_entries (whole b t units wells e q) (raised_units t b.units) (raised_wells t b.aquifers) 0
      (omega (arith, s.few_units, length_raised t b.units))
      (omega (arith, s.few_aquifers, length_drawn t b.aquifers))
      (λ k h. refl)
      (λ k h. refl)

  whole_ready : Ready (whole b t units wells e q)
  whole_ready = ready_same (bare_granted b t units wells e q) _ (whole_same b t units wells e q).units (bare_granted_ready b t units wells e q)

  pub counted_water : no_water (entries_of (raised b t units wells e q) (drawn b t units wells e q) 0) t ≡ no_water (granted (view_of b) t) t
  counted_water =
      water_same (whole b t units wells e q) _ counted_whole whole_ready t (named b t units wells e q)
      ∙ trial_water b t _ _ units wells e q refl refl

-- No flow is negative, over the units of a view alone.
flowing_alone : (v : View) → flowing (alone v) ≡ flowing v
flowing_alone v = λ i. every v.units (λ j. non_neg (flow_alone v j i))

module _ (b : Balance) (n : ℕ) (e : sound (view_of b) ≡ true) (q : number_in_force (view_of b) n ≡ true) where
  -- A title in force can be taken back.
  pub takable : Takable b (title_of (view_of b) n)
  takable = takable_in_force b n (soundness (view_of b) e) (in_force_of (view_of b) n q)

  module _ (z : Sized b) where
    left : view_of (without_title b n) ≡ cancelled (view_of b) n
    left = cancelled_view b n (soundness (view_of b) e) (in_force_of (view_of b) n q) z

    -- The units without the title can be worked out.
    pub lowered_ready : Ready (units_view (lowered_units (title_of (view_of b) n) b.units) b.unit_count)
    lowered_ready = ready_alone (view_of (without_title b n)) (subst⁻¹ Ready left (cancelled_ready (view_of b) n (soundness (view_of b) e)))

    -- Their flows are those without the title.
    pub lowered_flowing : flowing (units_view (lowered_units (title_of (view_of b) n) b.units) b.unit_count) ≡ flowing (cancelled (view_of b) n)
    lowered_flowing = flowing_alone (view_of (without_title b n)) ∙ ap flowing left
