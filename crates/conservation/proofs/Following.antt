-- The balance follows the tally: after every list of calls its view is the tally's entries, titles and last number. Assumes nothing.
use Rattle.std.specs.Prelude.{Ok, Err}
use Prim.Native.Nat.{ℕ, suc, pred, ◌+◌, ◌-◌, ◌≤◌}
use mathlib.Core.Path.{◌≡◌, refl, sym, ap, subst, subst⁻¹, ◌∙◌}
use mathlib.Core.Bool.{Bool, true, false, not}
use mathlib.Core.List.{List, [], ◌∷◌}
use lib.ListN.{length, length-replicate, get_or-eq_default}
use native.Mathlib.Omega.{arith}
use borrow.Author.Tests.{not-false}
use Rattle.laws.proofs.Cases.{by_lt}
use Rattle.laws.specs.Sum.{naturals, sum_of, only}
use Rattle.laws.proofs.Arrays.{get_or_empty, table_filled}
use Rattle.laws.proofs.Putting.{put_read, put_holds, sum_put, sum_put_next}
use Rattle.model.specs.declared.Refusal.TheVariants.{Unsound}
use Rattle.model.specs.declared.Unit.{Unit}
use Rattle.model.specs.declared.Aquifer.{Aquifer}
use Rattle.model.specs.declared.Place.{Place}
use Rattle.model.specs.declared.Title.{Title}
use Rattle.model.specs.declared.Call.{Call}
use Rattle.model.specs.declared.Call.TheVariants.{Grant, Cancel}
use Rattle.model.specs.declared.Balance.{Balance}
use Rattle.model.specs.Entries.{with_entries, with_extraction}
use Rattle.model.specs.Fresh.{empty_unit, empty_aquifer, empty_place}
use Rattle.model.specs.View.{View, view_of}
use Rattle.model.specs.Answers.{Answer, refuse}
use Rattle.model.proofs.Answers.{pass}
use Rattle.runoff.specs.Mean.{rounded}
use Rattle.titles.specs.Slot.{Slot}
use Rattle.titles.specs.Slot.{Extraction, Exports, Imports, Returns, WellExtraction}
use Rattle.titles.specs.Adds.{return_of, adds}
use Rattle.basin.specs.Sound.{sound, flowing}
use Rattle.basin.proofs.Soundness.{soundness}
use Rattle.runoff.specs.Record.{area_of, weighted_of, years_sum}
use Rattle.record.specs.Described.{unit_of, no_unit}
use Rattle.book.specs.Reading.{Description, balance_of, read, reading, opened}
use Rattle.book.proofs.Promises.{opening_sound, accepted_exactly}
use Rattle.register.specs.declared.Reply.{Reply}
use Rattle.effect.specs.Granted.{granted, posted, Sized}
use Rattle.refusal.specs.Grant.{no_water, grant_refusal}
use Rattle.register.specs.Reply.{replied}
use Rattle.effect.specs.Cancelled.{title_of, cancelled, without_title}
use Rattle.register.specs.Cancel.{number_in_force, cancel_refusal}
use Rattle.register.specs.Calls.{call_refusal, call_reply, after}
use Rattle.refusal.specs.Steps.{early_fault}
use Rattle.refusal.proofs.Granting.{grant_judged, both_accept}
use Rattle.effect.proofs.Changing.{changed_sized, posted_view}
use Rattle.register.proofs.Replies.{grantable_of}
use Rattle.register.proofs.Staying.{granted_sound}
use Rattle.register.proofs.Cancelling.{InForce, in_force_of, cancelled_view}
use Rattle.register.proofs.Leaving.{cancelled_sound}
use Rattle.conservation.specs.Demand3.{Tally, start, base_unit, base_aquifer, entered_adds, added, place_for, entries, entering, leaving, accepting, tally_refusal, unless_refused, tallied}

-- A balance follows a tally: its arrays have their full length, its view is the tally's, and it is sound; and the tally keeps with each
-- title the return that the title has.
pub record Follows (d : Description) (b : Balance) (t : Tally) : Type 0 where
  pub sized : Sized b
  pub same : view_of b ≡ entries d t
  pub stands : sound (view_of b) ≡ true
  pub kept : (k : ℕ) → (t.place k).back ≡ return_of (t.place k).title

-- The view over a description in which an entry is worked from its base, with so many numbers given and these places.
abbrev unit_by : (Slot → ℕ → ℕ) → Unit → Unit
unit_by f u = with_entries u (f Extraction u.extraction) (f Exports u.exports) (f Imports u.imports) (f Returns u.returns)

abbrev aquifer_by : (Slot → ℕ → ℕ) → Aquifer → Aquifer
aquifer_by f a = with_extraction a (f WellExtraction a.extraction)

abbrev view_by : Description → (ℕ → Slot → ℕ → ℕ) → ℕ → (ℕ → Place) → View
view_by d f given place =
    record {
      units = length d.units;
      unit = λ j. unit_by (f j) (base_unit d j);
      aquifers = length d.aquifers;
      aquifer = λ j. aquifer_by (f j) (base_aquifer d j);
      given = given;
      place = place;
    }

-- The tally starts with the base entries.
module _ (d : Description) where
  none_added : (j : ℕ) (s : Slot) (x : ℕ) → x ≡ x + added start s j
  unfolding sum_of
  none_added j s x = omega arith

  -- Past the last unit the base entries are those of an empty place.
  no_unit_lem : empty_unit ≡ unit_of no_unit
  unfolding rounded years_sum area_of weighted_of
  no_unit_lem = refl

  past_units : (j : ℕ) → length d.units ≤ j → empty_unit ≡ base_unit d j
  past_units j h = no_unit_lem ∙ ap unit_of (sym (get_or-eq_default d.units no_unit h))

  opened_unit : length d.units ≤ 64 → (j : ℕ) → (view_of (balance_of d)).unit j ≡ base_unit d j
  opened_unit h j =
      let p = table_filled 64 empty_unit (length d.units) (base_unit d) h in
      by_lt j (length d.units) (λ g. p.done j g) (λ g. p.rest j g ∙ past_units j g)

  opened_aquifer : length d.aquifers ≤ 32 → (j : ℕ) → (view_of (balance_of d)).aquifer j ≡ base_aquifer d j
  opened_aquifer h j =
      let p = table_filled 32 empty_aquifer (length d.aquifers) (base_aquifer d) h in
      by_lt j (length d.aquifers) (λ g. p.done j g) (λ g. p.rest j g ∙ sym (get_or-eq_default d.aquifers empty_aquifer g))

  opened_view : length d.units ≤ 64 → length d.aquifers ≤ 32 → view_of (balance_of d) ≡ view_by d (λ j s x. x) 0 (λ k. empty_place)
  opened_view h g = λ i.
      record {
        units = length d.units;
        unit = λ j. opened_unit h j i;
        aquifers = length d.aquifers;
        aquifer = λ j. opened_aquifer g j i;
        given = 0;
        place = λ k. get_or_empty 256 k empty_place i;
      }

  -- A description's sound balance follows the tally at its start.
  opened_follows : sound (view_of (balance_of d)) ≡ true → Follows d (balance_of d) start
  opened_follows e =
      let s = soundness (view_of (balance_of d)) e in
      record {
        sized =
            record {
              units = (table_filled 64 empty_unit (length d.units) (base_unit d) s.few_units).long;
              aquifers = (table_filled 32 empty_aquifer (length d.aquifers) (base_aquifer d) s.few_aquifers).long;
              titles = length-replicate 256 empty_place;
            };
        same = opened_view s.few_units s.few_aquifers ∙ (λ i. view_by d (λ j s x. none_added j s x i) 0 (λ k. empty_place));
        stands = e;
        kept = λ k. refl;
      }

-- Opening an accepted book hands out a balance that follows the tally at its start.
pub follows_start : (s : List ℕ) (d : Description) (at : ℕ) → reading s ≡ read d at → Follows d (opened s).balance start
follows_start s d at e =
    let q = (accepted_exactly s).balance d at e in
    subst⁻¹ (λ (b : Balance). Follows d b start) q
    (opened_follows d (subst (λ (b : Balance). sound (view_of b) ≡ true) q (opening_sound s)))

-- The tally's entries with one title more are its entries with that title granted.
module _ (d : Description) (t : Tally) (x : Title) where
  one_more : (j : ℕ) (s : Slot) (base : ℕ) → base + added t s j + adds x (return_of x) s j ≡ base + added (accepting t (Grant x)) s j
  one_more j s base = omega (arith, sum_put_next (λ e. entered_adds e s j) t.place t.last (entering x))

  granted_entries : granted (entries d t) x ≡ entries d (accepting t (Grant x))
  granted_entries = λ i.
      view_by d (λ j s base. one_more j s base i) (suc t.last) (λ k. put_read place_for t.place t.last (entering x) k i)

  granted_kept : ((k : ℕ) → (t.place k).back ≡ return_of (t.place k).title)
      → (k : ℕ) → ((accepting t (Grant x)).place k).back ≡ return_of ((accepting t (Grant x)).place k).title
  granted_kept h k = put_holds (λ e. e.back ≡ return_of e.title) t.place t.last (entering x) refl h k

-- The tally's entries without the title under a number are its entries with that title cancelled.
module _ (d : Description) (t : Tally) (n : ℕ) (f : InForce (entries d t) n) (kept : (k : ℕ) → (t.place k).back ≡ return_of (t.place k).title) where
  abbrev title : Title
  title = (t.place (pred n)).title

  -- What the title added, by the return that was kept with it.
  taken : (s : Slot) (j : ℕ) → entered_adds (t.place (pred n)) s j ≡ adds title (return_of title) s j
  taken s j = (λ i. only naturals (f.stands i) (adds title (kept (pred n) i) s j))

  one_fewer : (j : ℕ) (s : Slot) (base : ℕ) → base + added t s j - adds title (return_of title) s j ≡ base + added (accepting t (Cancel n)) s j
  one_fewer j s base =
      omega (
        arith,
        sum_put (λ e. entered_adds e s j) t.place t.last (pred n) (leaving (t.place (pred n))) (omega (arith, f.given.positive, f.given.within)),
        taken s j,
      )

  cancelled_entries : cancelled (entries d t) n ≡ entries d (accepting t (Cancel n))
  cancelled_entries = λ i.
      view_by d (λ j s base. one_fewer j s base i) t.last (λ k. put_read place_for t.place (pred n) (leaving (t.place (pred n))) k i)

  cancelled_kept : (k : ℕ) → ((accepting t (Cancel n)).place k).back ≡ return_of ((accepting t (Cancel n)).place k).title
  cancelled_kept k =
      put_holds (λ e. e.back ≡ return_of e.title) t.place (pred n) (leaving (t.place (pred n))) (kept (pred n)) kept k

-- What the absence of a refusal says.
grant_unrefused : (v : View) (x : Title) → grant_refusal v x ≡ Ok tt → (early_fault v x ≡ Ok tt) × (no_water (granted v x) x ≡ false)
grant_unrefused v x e =
    let p = both_accept (early_fault v x) _ (sym (grant_judged v x) ∙ e) in
    (p.0, (pass (no_water (granted v x) x) _ _ p.1).not)

cancel_unrefused : (v : View) (n : ℕ) → cancel_refusal v n ≡ Ok tt → (number_in_force v n ≡ true) × (flowing (cancelled v n) ≡ true)
cancel_unrefused v n e =
    let p = pass (not (number_in_force v n)) _ _ e in
    (not-false _ p.not, not-false _ (pass (not (flowing (cancelled v n))) _ _ p.on).not)

-- What an accepted call makes of a balance, and the number that it carries.
abbrev pub changed : Balance → Call → Balance
changed b (Grant x) = posted b x
changed b (Cancel n) = without_title b n

abbrev pub carried : Balance → Call → ℕ
carried b (Grant x) = b.given + 1
carried b (Cancel n) = n

-- The reply to a call on a sound balance is its refusal's.
pub replied_to : (b : Balance) (c : Call) → sound (view_of b) ≡ true → call_reply b c ≡ replied (call_refusal (view_of b) c) b (changed b c) (carried b c)
replied_to b (Grant x) e = ap (λ (s : Bool). replied (refuse Unsound (not s) (grant_refusal (view_of b) x)) b (posted b x) (b.given + 1)) e
replied_to b (Cancel n) e = ap (λ (s : Bool). replied (refuse Unsound (not s) (cancel_refusal (view_of b) n)) b (without_title b n) n) e

module _ (d : Description) (b : Balance) (t : Tally) (f : Follows d b t) where
  -- The balance and the tally refuse the same.
  pub same_refusal : (c : Call) → call_refusal (view_of b) c ≡ tally_refusal d t c
  same_refusal c = ap (λ (v : View). call_refusal v c) f.same

  granted_follows : (x : Title) → grant_refusal (view_of b) x ≡ Ok tt → Follows d (posted b x) (accepting t (Grant x))
  granted_follows x e =
      let p = grant_unrefused (view_of b) x e in
      let q = posted_view b x f.sized (grantable_of b x f.stands p.0) in
      record {
        sized = changed_sized ◌+◌ x b (b.given + 1) b.given _ f.sized;
        same = q ∙ ap (λ (v : View). granted v x) f.same ∙ granted_entries d t x;
        stands = subst⁻¹ (λ (v : View). sound v ≡ true) q (granted_sound (view_of b) x f.stands p.0 p.1);
        kept = granted_kept d t x f.kept;
      }

  cancelled_follows : (n : ℕ) → cancel_refusal (view_of b) n ≡ Ok tt → Follows d (without_title b n) (accepting t (Cancel n))
  cancelled_follows n e =
      let p = cancel_unrefused (view_of b) n e in
      let g = in_force_of (view_of b) n p.0 in
      let q = cancelled_view b n (soundness (view_of b) f.stands) g f.sized in
      let h = subst (λ (v : View). InForce v n) f.same g in
      record {
        sized = changed_sized ◌-◌ (title_of (view_of b) n) b b.given (pred n) _ f.sized;
        same = q ∙ ap (λ (v : View). cancelled v n) f.same ∙ cancelled_entries d t n h f.kept;
        stands = subst⁻¹ (λ (v : View). sound v ≡ true) q (cancelled_sound (view_of b) n f.stands p.0 p.1);
        kept = cancelled_kept d t n h f.kept;
      }

  accepted_follows : (c : Call) → call_refusal (view_of b) c ≡ Ok tt → Follows d (changed b c) (accepting t c)
  accepted_follows (Grant x) e = granted_follows x e
  accepted_follows (Cancel n) e = cancelled_follows n e

  replied_follows : (c : Call) (r : Answer) → call_refusal (view_of b) c ≡ r → Follows d (replied r b (changed b c) (carried b c)).balance (unless_refused r t c)
  replied_follows c (Ok u) e = accepted_follows c e
  replied_follows c (Err k) e = f

  -- The balance that a call returns follows the tally after that call.
  pub follows_call : (c : Call) → Follows d (call_reply b c).balance (unless_refused (tally_refusal d t c) t c)
  follows_call c =
      subst⁻¹ (λ (y : Balance). Follows d y (unless_refused (tally_refusal d t c) t c)) (ap (λ (r : Reply). r.balance) (replied_to b c f.stands))
      (subst (λ (r : Answer). Follows d (replied (call_refusal (view_of b) c) b (changed b c) (carried b c)).balance (unless_refused r t c)) (same_refusal c)
      (replied_follows c (call_refusal (view_of b) c) refl))

-- The balance after a list of calls follows the tally after that list.
pub follows_calls : (d : Description) (b : Balance) (t : Tally) → Follows d b t → (cs : List Call) → Follows d (after b cs) (tallied d t cs)
unfolding after tallied
follows_calls d b t f [] = f
follows_calls d b t f (c ∷ cs) = follows_calls d (call_reply b c).balance (unless_refused (tally_refusal d t c) t c) (follows_call d b t f c) cs
