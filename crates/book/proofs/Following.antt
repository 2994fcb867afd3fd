-- The loop of opening follows the definition of reading. Assumes nothing.
use Rattle.std.specs.Prelude.{Ok, Err}
use Prim.Native.Nat.{ℕ, suc, ◌+◌, ◌-◌, ◌≤◌, ◌<◌}
use mathlib.Core.Path.{◌≡◌, refl, sym, ap, ◌∙◌, subst, subst⁻¹}
use mathlib.Core.List.{List, [], ◌∷◌, ◌++◌}
use lib.ListN.{length, get_or, set, length-set, replicate}
use lib.Seq.{get_or-set_same}
use native.Mathlib.Omega.{arith}
use Rattle.laws.proofs.Arrays.{filled_start, filled_table}
use Rattle.model.specs.declared.Aquifer.{Aquifer}
use Rattle.model.specs.declared.Balance.{Balance}
use Rattle.model.specs.Fresh.{empty_unit, empty_aquifer, empty_place, fresh_balance}
use Rattle.record.specs.declared.UnitRecord.{UnitRecord}
use Rattle.record.specs.Record.{no_sums}
use Rattle.record.specs.Described.{no_unit, summed, unit_of}
use Rattle.record.specs.Entries.{Entry, unit_entry, aquifer_entry}
use Rattle.record.specs.Fault.{closing_fault}
use Rattle.record.proofs.Summing.{summed_none}
use Rattle.record.specs.declared.Failure.{Failure}
use Rattle.book.specs.declared.Next.TheVariants.{Ends, Opens, Grows, Adds}
use Rattle.book.specs.Reading.{Description, last_sums, with_unit, with_last, with_aquifer, reading_from, reading, opened_as, opened}
use Rattle.book.specs.Steps.{Step, next}
use Rattle.book.specs.Opening.{put_aquifer, stored, draft, refused_with, ended_with, EndReady}
use Rattle.book.proofs.Entries.{Standing, standing, reads_end, reads_clear}
use Rattle.book.proofs.Promises.{same_reading}
use Rattle.book.proofs.Growing.{Good, good_start, good_entry, clear_unit, clear_aquifer, draft_unit, draft_last, draft_aquifer, snoc_length, snoc_last}
use Rattle.book.proofs.Telling.{Told, next_told}
use Rattle.book.proofs.Finishing.{ended_is, end_ready}

-- The loop has reached an offset: a description was read so far, the loop's values are those of that description, and reading it from here gives
-- what reading the book gives. More records than bytes are never left.
pub record Reached (s : List ℕ) (b : Balance) (unit : UnitRecord) (units aquifers at : ℕ) : Type 0 where
  pub description : Description
  pub good : Good description
  pub count : units ≡ length description.units
  pub wells : aquifers ≡ length description.aquifers
  pub last : unit ≡ last_sums description
  pub held : b ≡ draft description
  pub within : at ≤ length s
  pub same : reading_from (length s - at + 1) s at description ≡ reading s

pub reached_start : (s : List ℕ) → Reached s fresh_balance no_sums 0 0 0
reached_start s =
    record {
      description = record { units = []; aquifers = [] };
      good = good_start;
      count = refl;
      wells = refl;
      last = sym summed_none;
      held = λ i.
          record {
            units = filled_table 64 empty_unit (λ k. unit_of (get_or [] k no_unit)) 0 (replicate 64 empty_unit) (filled_start 64 empty_unit _) i;
            unit_count = 0;
            aquifers = filled_table 32 empty_aquifer (λ k. get_or [] k empty_aquifer) 0 (replicate 32 empty_aquifer) (filled_start 32 empty_aquifer _) i;
            aquifer_count = 0;
            titles = replicate 256 empty_place;
            given = 0;
          };
      within = omega arith;
      same = ap (λ (n : ℕ). reading_from n s 0 (record { units = []; aquifers = [] })) (omega arith);
    }

module _ (s : List ℕ) (b : Balance) (unit : UnitRecord) (units aquifers at : ℕ) (r : Reached s b unit units aquifers at) where
  -- What the loop finds is what the definition finds.
  found : (x : Step) → next s at unit units aquifers ≡ x → next s at (last_sums r.description) (length r.description.units) (length r.description.aquifers) ≡ x
  found x e = sym (λ i. next s at (r.last i) (r.count i) (r.wells i)) ∙ e

  told : (x : Step) → next s at unit units aquifers ≡ x → Told s at r.description x
  told x e = subst (Told s at r.description) (found x e) (next_told s at r.description)

  allowed : reading_from (suc (length s - at)) s at r.description ≡ reading s
  allowed = (λ i. reading_from (one i) s at r.description) ∙ r.same
    where
      one : suc (length s - at) ≡ length s - at + 1
      one = omega arith

  -- A record that stands takes bytes, and as many records as bytes that are left, and one, are enough.
  fewer : (e : Entry) (to : ℕ) (d : Description) → Standing s at e to → reading_from (length s - to + 1) s to d ≡ reading_from (length s - at) s to d
  fewer e to d h = same_reading _ _ s to d (omega (arith, h.onward, h.within)) (omega (arith, h.onward, h.within))

  pub opens_onward : (v : UnitRecord) (to : ℕ) → next s at unit units aquifers ≡ Ok (Opens v to) → length s - to < length s - at
  opens_onward v to e =
      let stand = standing s at _ to (told (Ok (Opens v to)) e).found in omega (arith, stand.onward, stand.within)

  pub grows_onward : (v : UnitRecord) (to : ℕ) → next s at unit units aquifers ≡ Ok (Grows v to) → length s - to < length s - at
  grows_onward v to e =
      let stand = standing s at _ to (told (Ok (Grows v to)) e).found in omega (arith, stand.onward, stand.within)

  pub adds_onward : (a : Aquifer) (to : ℕ) → next s at unit units aquifers ≡ Ok (Adds a to) → length s - to < length s - at
  adds_onward a to e =
      let stand = standing s at _ to (told (Ok (Adds a to)) e).found in omega (arith, stand.onward, stand.within)

  pub reached_ends : next s at unit units aquifers ≡ Ok Ends → ended_with b unit units aquifers at ≡ opened s
  reached_ends e =
      (λ i. ended_with (r.held i) (r.last i) (r.count i) (r.wells i) at)
      ∙ ended_is r.description at r.good
      ∙ ap opened_as (sym (reads_end (length s - at) s at r.description (told (Ok Ends) e)) ∙ allowed)

  pub reached_refused : (f : Failure) → next s at unit units aquifers ≡ Err f → refused_with f.refusal f.place ≡ opened s
  reached_refused f e = ap opened_as (sym (told (Err f) e (length s - at)) ∙ allowed)

  pub opens_closing : (v : UnitRecord) (to : ℕ) → next s at unit units aquifers ≡ Ok (Opens v to)
      → closing_fault (length r.description.units) (last_sums r.description) ≡ Ok tt
  opens_closing v to e = let t = told (Ok (Opens v to)) e in (clear_unit r.description r.good t.unit at t.passed).0

  pub reached_opens : (v : UnitRecord) (to : ℕ) → next s at unit units aquifers ≡ Ok (Opens v to)
      → Reached s (stored b unit units) v (units + 1) aquifers to
  reached_opens v to e =
      let x = r.description in
      let t = told (Ok (Opens v to)) e in
      let w = t.unit in
      let stand = standing s at (unit_entry w) to t.found in
      record {
        description = with_unit x w;
        good = good_entry x r.good (unit_entry w) at t.passed stand.begun;
        count = omega (arith, r.count, snoc_length x.units w no_unit);
        wells = r.wells;
        last = t.sums ∙ ap summed (sym (snoc_last x.units w no_unit (length (x.units ++ (w ∷ [])) - 1) (omega (arith, snoc_length x.units w no_unit))));
        held = (λ i. stored (r.held i) (r.last i) (r.count i)) ∙ sym (draft_unit x r.good w (clear_unit x r.good w at t.passed).1.room);
        within = stand.within;
        same = fewer _ to _ stand ∙ sym (reads_clear (length s - at) s at x (unit_entry w) to t.found t.passed) ∙ allowed;
      }

  pub reached_grows : (v : UnitRecord) (to : ℕ) → next s at unit units aquifers ≡ Ok (Grows v to) → Reached s b v units aquifers to
  reached_grows v to e =
      let x = r.description in
      let t = told (Ok (Grows v to)) e in
      let w = t.unit in
      let stand = standing s at t.entry to t.found in
      let some : length x.units - 1 < length x.units = omega (arith, t.after) in
      record {
        description = with_last x w;
        good = subst Good t.kept (good_entry x r.good t.entry at t.passed stand.begun);
        count = r.count ∙ sym (length-set x.units (length x.units - 1) w);
        wells = r.wells;
        last = t.sums ∙ ap summed (sym ((λ i. get_or (set x.units (length x.units - 1) w) (length-set x.units (length x.units - 1) w i - 1) no_unit)
            ∙ get_or-set_same x.units (length x.units - 1) w no_unit some));
        held = r.held ∙ sym (draft_last x r.good w);
        within = stand.within;
        same = fewer _ to _ stand ∙ ap (reading_from (length s - at) s to) (sym t.kept) ∙ sym (reads_clear (length s - at) s at x t.entry to t.found t.passed) ∙ allowed;
      }

  pub adds_room : (a : Aquifer) (to : ℕ) → next s at unit units aquifers ≡ Ok (Adds a to) → aquifers < 32
  adds_room a to e = omega (arith, r.wells, (clear_aquifer r.description r.good a at (told (Ok (Adds a to)) e).passed).1.room)

  pub reached_adds : (a : Aquifer) (to : ℕ) → next s at unit units aquifers ≡ Ok (Adds a to)
      → Reached s (put_aquifer b aquifers a) unit units (aquifers + 1) to
  reached_adds a to e =
      let x = r.description in
      let t = told (Ok (Adds a to)) e in
      let stand = standing s at (aquifer_entry a) to t.found in
      record {
        description = with_aquifer x a;
        good = good_entry x r.good (aquifer_entry a) at t.passed stand.begun;
        count = r.count;
        wells = omega (arith, r.wells, snoc_length x.aquifers a empty_aquifer);
        last = r.last;
        held = (λ i. put_aquifer (r.held i) (r.wells i) a) ∙ sym (draft_aquifer x r.good a (clear_aquifer x r.good a at t.passed).1.room);
        within = stand.within;
        same = fewer _ to _ stand ∙ sym (reads_clear (length s - at) s at x (aquifer_entry a) to t.found t.passed) ∙ allowed;
      }

-- The four values that the end of a description works from.
record EndState : Type 0 where
  balance : Balance
  unit : UnitRecord
  units : ℕ
  aquifers : ℕ

-- What the end of a description asks holds where the loop is.
pub reached_ready : (s : List ℕ) (b : Balance) (unit : UnitRecord) (units aquifers at : ℕ) → Reached s b unit units aquifers at
    → EndReady b unit units aquifers
reached_ready s b unit units aquifers at r =
    subst⁻¹ (λ (x : EndState). EndReady x.balance x.unit x.units x.aquifers) (λ i. record { balance = r.held i; unit = r.last i; units = r.count i; aquifers = r.wells i })
    (end_ready r.description r.good)
