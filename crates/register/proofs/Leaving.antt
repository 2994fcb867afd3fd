-- The reply to a cancellation by its outcomes, and that an accepted one never hands out a balance that falls under 0. Assumes nothing.
use Rattle.std.specs.Prelude.{Ok, Err}
use Prim.Native.Nat.{ℕ, pred, ◌-◌, ◌<◌}
use mathlib.Core.Path.{◌≡◌, refl, sym, ap, subst⁻¹, ◌∙◌}
use mathlib.Core.Bool.{Bool, true, false, not, true≢false}
use native.Mathlib.Omega.{arith}
use borrow.Author.Tests.{eq-eqb, ne_eqb}
use Rattle.laws.proofs.Cases.{by_bool, by_eq}
use Rattle.laws.proofs.Every.{every_each}
use Rattle.model.specs.declared.Refusal.TheVariants.{Unsound, NotInForce, FlowNeeded}
use Rattle.model.specs.declared.Unit.{Unit}
use Rattle.model.specs.declared.Aquifer.{Aquifer}
use Rattle.model.specs.declared.Title.{Title}
use Rattle.model.specs.declared.Balance.{Balance}
use Rattle.model.specs.View.{View, view_of}
use Rattle.model.specs.Answers.{Answer, refuse}
use Rattle.titles.specs.Adds.{return_of}
use Rattle.titles.specs.Slot.{Extraction, Exports, Imports, Returns, WellExtraction}
use Rattle.river.specs.Flow.{Ready}
use Rattle.basin.specs.Sound.{sound, flowing}
use Rattle.basin.proofs.Soundness.{UnitSound, AquiferSound, PlaceSound, Soundness, soundness, sound_of, ready_of}
use Rattle.register.specs.Reply.{after_test, replied}
use Rattle.effect.specs.Granted.{Sized}
use Rattle.effect.specs.Effect.{changed_unit, changed_aquifer}
use Rattle.effect.specs.Cancelled.{title_of, cancelled, without_title}
use Rattle.register.specs.Cancel.{number_in_force, cancel_refusal, cancel_reply}
use Rattle.register.specs.declared.Reply.{Reply}
use Rattle.register.proofs.Cancelling.{in_force_of, one_less, cancelled_view}
use Rattle.register.proofs.Staying.{not_refused}

-- Entries that are lowered stay within the limit.
unit_lower : (t : Title) (n k : ℕ) (u : Unit) → UnitSound n k u → UnitSound n k (changed_unit ◌-◌ t (return_of t) k u)
unit_lower t n k u s =
    record {
      extraction = omega (arith, s.extraction);
      exports = omega (arith, s.exports);
      imports = omega (arith, s.imports);
      returns = omega (arith, s.returns);
      evaporation = s.evaporation;
      rise = s.rise;
      fall = s.fall;
      commitment = s.commitment;
      runoff = s.runoff;
      onward = s.onward;
      within = s.within;
      outlet = s.outlet;
    }

aquifer_lower : (t : Title) (k : ℕ) (a : Aquifer) → AquiferSound a → AquiferSound (changed_aquifer ◌-◌ t (return_of t) k a)
aquifer_lower t k a s =
    record {
      rise = s.rise;
      fall = s.fall;
      natural = s.natural;
      pumped = s.pumped;
      committed = s.committed;
      extraction = omega (arith, s.extraction);
      recharged = s.recharged;
    }

-- The view without the title can be worked out.
pub cancelled_ready : (v : View) (n : ℕ) → Soundness v → Ready (cancelled v n)
cancelled_ready v n s = ready_of (cancelled v n) s.few_units (λ k h. unit_lower (title_of v n) v.units k (v.unit k) (s.unit k h))

place_left : (v : View) (n : ℕ) → Soundness v → (k : ℕ) → k < v.given → PlaceSound v.units v.aquifers ((cancelled v n).place k)
place_left v n s k h =
    by_eq k (pred n)
    (λ e. rw (eq-eqb k (pred n) e) (record { in_force = λ q. absurd (true≢false (sym q)) }))
    (λ e. rw (ne_eqb k (pred n) e) (s.place k h))

-- A sound view stays sound without a title, where no flow is negative without it.
pub cancelled_sound : (v : View) (n : ℕ) → sound v ≡ true → number_in_force v n ≡ true → flowing (cancelled v n) ≡ true → sound (cancelled v n) ≡ true
cancelled_sound v n e q d =
    let s = soundness v e in
    let f = in_force_of v n q in
    let t = title_of v n in
    sound_of (cancelled v n)
    (record {
      few_units = s.few_units;
      few_aquifers = s.few_aquifers;
      few_titles = s.few_titles;
      unit = λ j h. unit_lower t v.units j (v.unit j) (s.unit j h);
      aquifer = λ j h. aquifer_lower t j (v.aquifer j) (s.aquifer j h);
      flowing = λ j h. every_each _ v.units d j h;
      place = place_left v n s;
      covered =
          λ j h.
          record {
            extraction = omega (arith, one_less v n f Extraction j, (s.covered j h).extraction);
            exports = omega (arith, one_less v n f Exports j, (s.covered j h).exports);
            imports = omega (arith, one_less v n f Imports j, (s.covered j h).imports);
            returns = omega (arith, one_less v n f Returns j, (s.covered j h).returns);
          };
      well_covered = λ j h. omega (arith, one_less v n f WellExtraction j, s.well_covered j h);
    })

module _ (b : Balance) (n : ℕ) where
  by_refusal : (r : Answer) → after_test b (cancel_refusal (view_of b) n) ≡ r → replied r b (without_title b n) n ≡ cancel_reply b n
  by_refusal r e = ap (λ (x : Answer). replied x b (without_title b n) n) (sym e)

  outcome : (s f : Bool) → sound (view_of b) ≡ s → number_in_force (view_of b) n ≡ f
      → after_test b (cancel_refusal (view_of b) n)
      ≡ refuse Unsound (not s) (refuse NotInForce (not f) (refuse FlowNeeded (not (flowing (cancelled (view_of b) n))) (Ok tt)))
  outcome s f e q = λ i. refuse Unsound (not (e i)) (refuse NotInForce (not (q i)) (refuse FlowNeeded (not (flowing (cancelled (view_of b) n))) (Ok tt)))

  -- 0.
  pub reply_fault : sound (view_of b) ≡ false → replied (Err Unsound) b b 0 ≡ cancel_reply b n
  reply_fault e = by_refusal (Err Unsound) (outcome false (number_in_force (view_of b) n) e refl)

  -- 19.
  pub reply_not_in_force : sound (view_of b) ≡ true → number_in_force (view_of b) n ≡ false → replied (Err NotInForce) b b 0 ≡ cancel_reply b n
  reply_not_in_force e q = by_refusal (Err NotInForce) (outcome true false e q)

  -- 20.
  pub reply_needed : sound (view_of b) ≡ true → number_in_force (view_of b) n ≡ true → flowing (cancelled (view_of b) n) ≡ false
      → replied (Err FlowNeeded) b b 0 ≡ cancel_reply b n
  reply_needed e q d = by_refusal (Err FlowNeeded) (outcome true true e q ∙ ap (λ (x : Bool). refuse FlowNeeded (not x) (Ok tt)) d)

  -- Accepted.
  pub reply_cancelled : sound (view_of b) ≡ true → number_in_force (view_of b) n ≡ true → flowing (cancelled (view_of b) n) ≡ true
      → replied (Ok tt) b (without_title b n) n ≡ cancel_reply b n
  reply_cancelled e q d = by_refusal (Ok tt) (outcome true true e q ∙ ap (λ (x : Bool). refuse FlowNeeded (not x) (Ok tt)) d)

-- What holds where a cancellation is accepted.
pub record Released (b : Balance) (n : ℕ) : Type 0 where
  pub sound_before : sound (view_of b) ≡ true
  pub stands : number_in_force (view_of b) n ≡ true
  pub flows : flowing (cancelled (view_of b) n) ≡ true

pub cancel_released : (b : Balance) (n : ℕ) → (cancel_reply b n).answer ≡ Ok tt → Released b n
cancel_released b n a =
    by_bool (sound (view_of b))
    (λ e. by_bool (number_in_force (view_of b) n)
    (λ q. by_bool (flowing (cancelled (view_of b) n))
    (λ d. record { sound_before = e; stands = q; flows = d })
    (λ d. absurd (not_refused FlowNeeded (cancel_reply b n) (ap (λ (r : Reply). r.answer) (sym (reply_needed b n e q d))) a)))
    (λ q. absurd (not_refused NotInForce (cancel_reply b n) (ap (λ (r : Reply). r.answer) (sym (reply_not_in_force b n e q))) a)))
    (λ e. absurd (not_refused Unsound (cancel_reply b n) (ap (λ (r : Reply). r.answer) (sym (reply_fault b n e))) a))

-- The reply to an accepted cancellation.
pub released_reply : (b : Balance) (n : ℕ) → Released b n → replied (Ok tt) b (without_title b n) n ≡ cancel_reply b n
released_reply b n f = reply_cancelled b n f.sound_before f.stands f.flows

-- CA: an accepted cancellation never hands out a balance that falls under 0.
pub cancel_sound : (b : Balance) (n : ℕ) → Sized b → (cancel_reply b n).answer ≡ Ok tt → sound (view_of (cancel_reply b n).balance) ≡ true
cancel_sound b n z a =
    let f = cancel_released b n a in
    subst⁻¹ (λ (x : Balance). sound (view_of x) ≡ true) (ap (λ (r : Reply). r.balance) (sym (released_reply b n f)))
    (subst⁻¹ (λ (w : View). sound w ≡ true) (cancelled_view b n (soundness (view_of b) f.sound_before) (in_force_of (view_of b) n f.stands) z)
    (cancelled_sound (view_of b) n f.sound_before f.stands f.flows))
