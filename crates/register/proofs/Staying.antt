-- An accepted grant never hands out a balance that falls under 0. Assumes nothing.
use Rattle.std.specs.Prelude.{Ok, Err}
use Prim.Native.Nat.{ℕ, suc, pred, ◌+◌, ◌≤◌, ◌<◌}
use mathlib.Core.Path.{◌≡◌, refl, sym, ap, subst⁻¹, ◌∙◌}
use mathlib.Core.Bool.{Bool, true, false, not, ◌&&◌, ◌||◌, true≢false}
use lib.Signed.{non_neg, ◌≤ℤ◌}
use native.Mathlib.Omega.{arith}
use borrow.Author.Tests.{eq-eqb, ne_eqb}
use Rattle.laws.proofs.Cases.{by_bool, by_eq}
use Rattle.laws.proofs.Putting.{sum_put_next}
use Rattle.model.specs.declared.Refusal.{Refusal}
use Rattle.model.specs.declared.Refusal.TheVariants.{Unsound, NoWater}
use Rattle.model.specs.declared.Unit.{Unit}
use Rattle.model.specs.declared.Title.{Title}
use Rattle.model.specs.declared.Title.TheVariants.{UnitWithdrawal, AquiferWithdrawal, UnitTransfer, AquiferTransfer, ReturningWithdrawal}
use Rattle.model.specs.declared.Balance.{Balance}
use Rattle.model.specs.Entries.{place_of}
use Rattle.model.specs.View.{View, view_of}
use Rattle.titles.specs.Adds.{return_of, adds, place_adds, titled}
use Rattle.titles.specs.Slot.{Slot, Extraction, Exports, Imports, Returns, WellExtraction}
use Rattle.river.specs.Flow.{flow, net, downstream, Ready}
use Rattle.river.proofs.Flows.{net_no_less}
use Rattle.laws.proofs.Every.{every_each}
use Rattle.basin.specs.Sound.{sound}
use Rattle.basin.proofs.Soundness.{PlaceSound, Soundness, soundness, sound_of, ready_of}
use Rattle.reach.specs.Reach.{outlet, same_basin}
use Rattle.reach.proofs.Ways.{outlet_same}
use Rattle.reach.proofs.Local.{flow_outside, flow_raised}
use Rattle.effect.specs.Effect.{changed_unit}
use Rattle.effect.specs.Granted.{posted, granted, Sized}
use Rattle.refusal.specs.Grant.{wanting, dry, no_water}
use Rattle.model.specs.Answers.{Answer}
use Rattle.register.specs.Reply.{replied, grant_reply}
use Rattle.refusal.specs.Steps.{early_fault}
use Rattle.model.proofs.Answers.{by_answer}
use Rattle.register.specs.declared.Reply.{Reply}
use Rattle.effect.proofs.Taking.{elsewhere}
use Rattle.refusal.proofs.Granting.{Granting, granting_of, unit_stays, aquifer_stays}
use Rattle.effect.proofs.Changing.{posted_view}
use Rattle.register.proofs.Replies.{grantable_of, reply_unsound, reply_early, reply_dry, reply_given}

-- A unit from which the title takes nothing adds no less to the river.
no_less : (t : Title) (k : ℕ) (u : Unit) → adds t (return_of t) Extraction k ≡ 0 → adds t (return_of t) Exports k ≡ 0
    → net u ≤ℤ net (changed_unit ◌+◌ t (return_of t) k u)
no_less t k u e f =
    let w = changed_unit ◌+◌ t (return_of t) k u in
    net_no_less u w.extraction w.exports w.imports w.returns (omega arith) (omega arith) (omega arith) (omega arith)

-- A unit of the basin of a unit whose basin is not dry has a flow that is not negative.
not_dry : (w : View) (j k : ℕ) → k < w.units → dry w j ≡ false → same_basin w j k ≡ true → non_neg (flow w k) ≡ true
not_dry w j k h e s =
    let one = every_each (λ m. not (same_basin w j m && wanting w m)) w.units (undone _ e) k h in
    let two = not_both (same_basin w j k) (wanting w k) one s in
    unwanted (non_neg (flow w k)) _ two
  where
    undone : (a : Bool) → not a ≡ false → a ≡ true
    undone true q = refl
    undone false q = absurd (true≢false q)

    not_both : (a b : Bool) → not (a && b) ≡ true → a ≡ true → b ≡ false
    not_both true true q p = absurd (true≢false (sym q))
    not_both true false q p = refl
    not_both false b q p = absurd (true≢false (sym p))

    unwanted : (a b : Bool) → not a || b ≡ false → a ≡ true
    unwanted true b q = refl
    unwanted false b q = absurd (true≢false q)

module _ (v : View) (t : Title) (s : Soundness v) (g : Granting v t) where
  ready : Ready v
  ready = ready_of v s.few_units s.unit

  same : (k : ℕ) → k < v.units → downstream (granted v t) k ≡ downstream v k
  same k h = refl

  -- Where water is taken from one basin only, and that basin is not dry with the title in, no flow is negative.
  basin_flows : (n : ℕ) → 0 < n → n ≤ v.units → dry (granted v t) (pred n) ≡ false
      → ((k : ℕ) → (n ≡ suc k → ⊥) → (adds t (return_of t) Extraction k ≡ 0) × (adds t (return_of t) Exports k ≡ 0))
      → (j : ℕ) → j < v.units → non_neg (flow (granted v t) j) ≡ true
  basin_flows n p l d a j h =
      by_bool (same_basin (granted v t) (pred n) j)
      (λ e. not_dry (granted v t) (pred n) j h d e)
      (λ e. flow_outside v (granted v t) ready same (outlet v (pred n))
      (λ k m o. let z = a k (λ q. o (ap (outlet v) (omega arith))) in no_less t k (v.unit k) z.0 z.1)
      j h
      (λ q. true≢false
      (sym (eq-eqb (outlet (granted v t) j) (outlet (granted v t) (pred n))
      (outlet_same v (granted v t) ready refl same j h ∙ q ∙ sym (outlet_same v (granted v t) ready refl same (pred n) (omega arith)))) ∙ e))
      (s.flowing j h))

  -- Where no unit gives water, no flow falls.
  well_flows : ((k : ℕ) → (adds t (return_of t) Extraction k ≡ 0) × (adds t (return_of t) Exports k ≡ 0)) → (j : ℕ) → j < v.units → non_neg (flow (granted v t) j) ≡ true
  well_flows a j h =
      flow_raised v (granted v t) same (λ k m. no_less t k (v.unit k) (a k).0 (a k).1) j h (s.flowing j h)

  -- What the titles in force add together, with one more.
  one_more : (k : Slot) (j : ℕ) → titled (granted v t) (suc v.given) k j ≡ titled v v.given k j + adds t (return_of t) k j
  one_more k j = sum_put_next (λ p. place_adds p k j) v.place v.given (place_of t true)

  place_stays : (k : ℕ) → k < suc v.given → PlaceSound v.units v.aquifers ((granted v t).place k)
  place_stays k h =
      by_eq k v.given
      (λ e. rw (eq-eqb k v.given e) (record { in_force = λ q. g.titled }))
      (λ e. rw (ne_eqb k v.given e) (s.place k (omega arith)))

  granted_soundness : ((j : ℕ) → j < v.units → non_neg (flow (granted v t) j) ≡ true) → Soundness (granted v t)
  granted_soundness f =
      record {
        few_units = s.few_units;
        few_aquifers = s.few_aquifers;
        few_titles = omega (arith, g.room);
        unit = λ j h. unit_stays v t g j (s.unit j h);
        aquifer = λ j h. aquifer_stays v t g j (s.aquifer j h);
        flowing = f;
        place = place_stays;
        covered =
            λ j h.
            record {
              extraction = omega (arith, one_more Extraction j, (s.covered j h).extraction);
              exports = omega (arith, one_more Exports j, (s.covered j h).exports);
              imports = omega (arith, one_more Imports j, (s.covered j h).imports);
              returns = omega (arith, one_more Returns j, (s.covered j h).returns);
            };
        well_covered = λ j h. omega (arith, one_more WellExtraction j, s.well_covered j h);
      }

-- With a title in for which there is water, no flow is negative.
pub granted_flows : (v : View) (t : Title) → Soundness v → Granting v t → no_water (granted v t) t ≡ false
    → (j : ℕ) → j < v.units → non_neg (flow (granted v t) j) ≡ true
granted_flows v (UnitWithdrawal u r x) s g d =
    basin_flows v (UnitWithdrawal u r x) s g u g.units.extraction.0 g.units.extraction.1 d (λ k e. (elsewhere u x k e, refl))
granted_flows v (AquiferWithdrawal a x) s g d = well_flows v (AquiferWithdrawal a x) s g (λ k. (refl, refl))
granted_flows v (UnitTransfer n r x) s g d =
    basin_flows v (UnitTransfer n r x) s g n g.units.exports.0 g.units.exports.1 d (λ k e. (refl, elsewhere n x k e))
granted_flows v (AquiferTransfer a u x) s g d = well_flows v (AquiferTransfer a u x) s g (λ k. (refl, refl))
granted_flows v (ReturningWithdrawal a u r x) s g d = well_flows v (ReturningWithdrawal a u r x) s g (λ k. (refl, refl))

-- A sound view stays sound with a title in that no refusal meets.
pub granted_sound : (v : View) (t : Title) → sound v ≡ true → early_fault v t ≡ Ok tt → no_water (granted v t) t ≡ false
    → sound (granted v t) ≡ true
granted_sound v t e q d =
    let s = soundness v e in
    let g = granting_of v t q in
    sound_of (granted v t) (granted_soundness v t s g (granted_flows v t s g d))

abbrev is_accepted : Answer → Bool
is_accepted (Ok u) = true
is_accepted (Err n) = false

pub not_refused : (n : Refusal) (r : Reply) → r.answer ≡ Err n → r.answer ≡ Ok tt → ⊥
not_refused n r e a = true≢false (sym (ap is_accepted a) ∙ ap is_accepted e)

-- What holds where a grant is accepted.
pub record Given (b : Balance) (t : Title) : Type 0 where
  pub sound_before : sound (view_of b) ≡ true
  pub none_early : early_fault (view_of b) t ≡ Ok tt
  pub water : no_water (granted (view_of b) t) t ≡ false

pub grant_given : (b : Balance) (t : Title) → (grant_reply b t).answer ≡ Ok tt → Given b t
grant_given b t a =
    by_bool (sound (view_of b))
    (λ e. by_answer (early_fault (view_of b) t)
    (λ q. by_bool (no_water (granted (view_of b) t) t)
    (λ d. absurd (not_refused NoWater (grant_reply b t) (ap (λ (r : Reply). r.answer) (sym (reply_dry b t e q d))) a))
    (λ d. record { sound_before = e; none_early = q; water = d }))
    (λ n q. absurd (not_refused n (grant_reply b t) (ap (λ (r : Reply). r.answer) (sym (reply_early b t n e q))) a)))
    (λ e. absurd (not_refused Unsound (grant_reply b t) (ap (λ (r : Reply). r.answer) (sym (reply_unsound b t e))) a))

-- The reply to an accepted grant.
pub given_reply : (b : Balance) (t : Title) → Given b t → replied (Ok tt) b (posted b t) (b.given + 1) ≡ grant_reply b t
given_reply b t g = reply_given b t g.sound_before g.none_early g.water

-- GU, GA, TU, TA and GW: an accepted call never hands out a balance that falls under 0.
pub accepted_sound : (b : Balance) (t : Title) → Sized b → (grant_reply b t).answer ≡ Ok tt → sound (view_of (grant_reply b t).balance) ≡ true
accepted_sound b t z a =
    let g = grant_given b t a in
    subst⁻¹ (λ (x : Balance). sound (view_of x) ≡ true) (ap (λ (r : Reply). r.balance) (sym (given_reply b t g)))
    (subst⁻¹ (λ (w : View). sound w ≡ true) (posted_view b t z (grantable_of b t g.sound_before g.none_early))
    (granted_sound (view_of b) t g.sound_before g.none_early g.water))
