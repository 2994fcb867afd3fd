-- What reading and opening promise of every book. Assumes nothing.
use Rattle.std.specs.Prelude.{Option, Some, None, Ok, Err}
use Prim.Native.Nat.{ℕ, zero, suc, ◌+◌, ◌-◌, ◌≤◌, ◌<◌}
use mathlib.Core.Path.{◌≡◌, refl, sym, ap, ◌∙◌, subst, subst⁻¹}
use mathlib.Core.Logic.{◌↔◌}
use mathlib.Core.Bool.{true, not}
use mathlib.Core.List.{List, []}
use lib.ListN.{length, get_or}
use lib.Dec.{ltb}
use lib.Signed.{non_neg}
use native.Mathlib.Omega.{arith}
use borrow.Author.Tests.{ltb-false, not-false}
use Rattle.model.specs.declared.Refusal.{Refusal}
use Rattle.model.specs.declared.Refusal.TheVariants.{Short, BadDownstream, NegativeFlow}
use Rattle.model.specs.declared.Aquifer.{Aquifer}
use Rattle.model.specs.Fresh.{fresh_balance}
use Rattle.model.specs.View.{view_of}
use Rattle.model.specs.Answers.{first}
use Rattle.model.proofs.Answers.{by_answer}
use Rattle.titles.specs.Adds.{titled}
use Rattle.titles.proofs.Adding.{places_none}
use Rattle.titles.specs.Slot.{Slot}
use Rattle.titles.specs.Slot.{Extraction, Exports, Imports, Returns, WellExtraction}
use Rattle.river.specs.Flow.{flow}
use Rattle.river.proofs.Firsts.{nothing_passed}
use Rattle.runoff.specs.Record.{gauged_on, sum_on}
use Rattle.runoff.proofs.Rounding.{natural_within}
use Rattle.basin.specs.Sound.{sound}
use Rattle.basin.proofs.Soundness.{UnitSound, AquiferSound, sound_of, fresh_sound}
use Rattle.record.specs.Described.{DescribedUnit, no_unit, summed, unit_of}
use Rattle.record.specs.Fault.{Closed, closing_fault}
use Rattle.book.specs.declared.Opened.{Opened}
use Rattle.book.specs.Reading.{Description, last_unit, last_sums, balance_of, Outcome, read, refused, fault_at, missing, negative, ended, with_entry, reading_from, reading, opened_as, opened}
use Rattle.record.proofs.Clean.{Fine, WellFine}
use Rattle.record.proofs.Means.{MeanOfYears, mean_of_years}
use Rattle.book.proofs.Entries.{standing, by_record, reads_end, reads_failing, reads_faulty, reads_clear}
use Rattle.book.proofs.Growing.{Good, good_start, good_entry, all_closed}
use Rattle.book.proofs.Finishing.{unit_at_lem, well_at}

-- Two allowances above the number of bytes that are left give the same.
pub same_reading : (f g : ℕ) (s : List ℕ) (at : ℕ) (d : Description) → length s - at < f → length s - at < g
    → reading_from f s at d ≡ reading_from g s at d
same_reading zero g s at d h k = absurd (omega arith)
same_reading (suc f) zero s at d h k = absurd (omega arith)
same_reading (suc f) (suc g) s at d h k =
    by_record s at d
    (λ q. reads_end f s at d q ∙ sym (reads_end g s at d q))
    (λ n q. reads_failing f s at d n q ∙ sym (reads_failing g s at d n q))
    (λ e to n p q v. reads_faulty f s at d e to n p q v ∙ sym (reads_faulty g s at d e to n p q v))
    (λ e to q v.
    let o = standing s at e to q in
    reads_clear f s at d e to q v ∙ same_reading f g s to (with_entry d e) (omega (arith, o.onward, o.within)) (omega (arith, o.onward, o.within))
    ∙ sym (reads_clear g s at d e to q v))

-- The allowance of records never runs out: reading with any larger allowance gives the same.
pub enough_records : (s : List ℕ) (e : ℕ) → reading_from (length s + 1 + e) s 0 (record { units = []; aquifers = [] }) ≡ reading s
enough_records s e = same_reading (length s + 1 + e) (length s + 1) s 0 _ (omega arith) (omega arith)

-- The balance that an outcome opens is sound.
abbrev SoundAfter : Outcome → Type 0
SoundAfter o = sound (view_of (opened_as o).balance) ≡ true

-- A fine unit that closed, and that drains within the balance, is sound.
unit_is_sound : (n k : ℕ) (u : DescribedUnit) → Fine k (summed u) → Closed (summed u) → u.downstream ≤ n → UnitSound n k (unit_of u)
unit_is_sound n k u f c h =
    record {
      extraction = f.extraction;
      exports = f.exports;
      imports = f.imports;
      returns = f.returns;
      evaporation = f.evaporation;
      rise = f.storage.rise;
      fall = f.storage.fall;
      commitment = f.commitment;
      runoff = natural_within (gauged_on u.plots) (length u.years) (sum_on u.plots u.years) (omega (arith, c.enough)) c.mean;
      onward = f.onward;
      within = h;
      outlet = f.inner;
    }

well_is_sound : (a : Aquifer) → WellFine a → AquiferSound a
well_is_sound a f =
    record {
      rise = f.within.storage.rise;
      fall = f.within.storage.fall;
      natural = f.within.natural;
      pumped = f.within.pumped;
      committed = f.within.committed;
      extraction = f.within.extraction;
      recharged = f.recharged;
    }

module _ (d : Description) (good : Good d) where
  description_sound : closing_fault (length d.units) (last_sums d) ≡ Ok tt
      → first (length d.units) (λ j. ltb (length d.units) (get_or d.units j no_unit).downstream) ≡ None
      → first (length d.units) (λ j. not (non_neg (flow (view_of (balance_of d)) j))) ≡ None
      → sound (view_of (balance_of d)) ≡ true
  description_sound e m f =
      sound_of (view_of (balance_of d))
      (record {
        few_units = good.few;
        few_aquifers = good.many;
        few_titles = omega arith;
        unit = λ j h. subst⁻¹ (UnitSound (length d.units) j) (unit_at_lem d good j h)
            (unit_is_sound (length d.units) j _ (good.fine j h) (all_closed d good e j h) (ltb-false _ _ (nothing_passed _ _ m j h)));
        aquifer = λ j h. subst⁻¹ AquiferSound (well_at d good j h) (well_is_sound _ (good.wells j h));
        flowing = λ j h. not-false _ (nothing_passed _ _ f j h);
        place = λ k h. absurd (omega arith);
        covered = λ j h. record { extraction = nothing Extraction j _; exports = nothing Exports j _; imports = nothing Imports j _; returns = nothing Returns j _ };
        well_covered = λ j h. nothing WellExtraction j _;
      })
    where
      nothing : (t : Slot) (j x : ℕ) → titled (view_of (balance_of d)) 0 t j ≤ x
      nothing t j x = omega (arith, places_none t j (view_of (balance_of d)).place)

-- What holds of every refusal, and of a description that passes the tests at its end, holds of what its end gives.
module _ (P : Outcome → Type 0) (fails : (n : Refusal) (p : ℕ) → P (refused n p)) where
  through_fault : (n : Refusal) (f : Option ℕ) (rest : Outcome) → (f ≡ None → P rest) → P (fault_at n f rest)
  through_fault n (Some j) rest k = fails n (suc j)
  through_fault n None rest k = k refl

  pub through_end : (d : Description) (at : ℕ)
      → (closing_fault (length d.units) (last_sums d) ≡ Ok tt → missing d ≡ None → negative (balance_of d) d ≡ None → P (read d at)) → P (ended d at)
  through_end d at reads =
      by_answer (closing_fault (length d.units) (last_sums d))
      (λ e. rw e (through_fault BadDownstream (missing d) _ (λ m. through_fault NegativeFlow (negative (balance_of d) d) _ (λ f. reads e m f))))
      (λ r e. rw e (fails r (last_unit d).at))

-- What holds of every refusal, and of every description that passes the tests at its end, holds of what reading gives.
module _ (P : Outcome → Type 0) (fails : (n : Refusal) (p : ℕ) → P (refused n p))
    (reads : (d : Description) → Good d → closing_fault (length d.units) (last_sums d) ≡ Ok tt → missing d ≡ None → negative (balance_of d) d ≡ None
    → (at : ℕ) → P (read d at))
  where
    all_records : (f : ℕ) (s : List ℕ) (at : ℕ) (d : Description) → Good d → P (reading_from f s at d)
    unfolding reading_from
    all_records zero s at d good = fails Short at
    all_records (suc f) s at d good =
        by_record s at d
        (λ q. subst⁻¹ P (reads_end f s at d q) (through_end P fails d at (λ e m n. reads d good e m n at)))
        (λ n q. subst⁻¹ P (reads_failing f s at d n q) (fails n at))
        (λ e to n p q v. subst⁻¹ P (reads_faulty f s at d e to n p q v) (fails n p))
        (λ e to q v.
        subst⁻¹ P (reads_clear f s at d e to q v) (all_records f s to (with_entry d e) (good_entry d good e at v (standing s at e to q).begun)))

    through_reading : (s : List ℕ) → P (reading s)
    through_reading s = all_records (length s + 1) s 0 (record { units = []; aquifers = [] }) good_start

-- Opening never hands out a balance that falls under 0.
pub opening_sound : (s : List ℕ) → sound (view_of (opened s).balance) ≡ true
opening_sound s = through_reading SoundAfter (λ n p. fresh_sound) (λ d good e m f at. description_sound d good e m f) s

-- The same of what reading a book gave.
pub opened_sound : (s : List ℕ) (o : Opened) → o ≡ opened s → sound (view_of o.balance) ≡ true
opened_sound s o e = ap (λ (x : Opened). sound (view_of x.balance)) e ∙ opening_sound s

-- Every unit of the description, where there is one, is closed.
abbrev AllClosed : Outcome → Type 0
AllClosed (read d at) = (k : ℕ) → k < length d.units → Closed (summed (get_or d.units k no_unit))
AllClosed (refused n p) = Unit {0}

-- Each unit of an accepted description is closed: it has 20 to 50 years.
pub units_closed : (s : List ℕ) (d : Description) (at : ℕ) → reading s ≡ read d at → (k : ℕ) → k < length d.units → Closed (summed (get_or d.units k no_unit))
units_closed s d at e = subst AllClosed e (through_reading AllClosed (λ n p. tt) (λ x good c m f to. all_closed x good c) s)

-- The natural runoff of each unit of an accepted description is the mean of its years, rounded once.
abbrev AllMeans : Outcome → Type 0
AllMeans (read d at) = (k : ℕ) → k < length d.units → MeanOfYears (get_or d.units k no_unit)
AllMeans (refused n p) = Unit {0}

pub runoff_is_mean : (s : List ℕ) (d : Description) (at : ℕ) → reading s ≡ read d at → (k : ℕ) → k < length d.units
    → MeanOfYears (get_or d.units k no_unit)
runoff_is_mean s d at e =
    subst AllMeans e (through_reading AllMeans (λ n p. tt) (λ x good c m f to k h. mean_of_years _ (good.kinds k h)) s)

-- What opening a book answers: accepted exactly when reading ends with a description, with its balance and the offset where it ends;
-- refused, the fresh balance.
pub record OpensExactly (s : List ℕ) : Type 0 where
  pub accepted : ((opened s).answer ≡ Ok tt) ↔ ((d : Description) × (at : ℕ) × (reading s ≡ read d at))
  pub balance : (d : Description) (at : ℕ) → reading s ≡ read d at → (opened s).balance ≡ balance_of d
  pub place : (d : Description) (at : ℕ) → reading s ≡ read d at → (opened s).place ≡ at
  pub fresh : (n : Refusal) → (opened s).answer ≡ Err n → (opened s).balance ≡ fresh_balance

accepted_read : (o : Outcome) → (opened_as o).answer ≡ Ok tt → (d : Description) × (at : ℕ) × (o ≡ read d at)
accepted_read (read d at) e = (d, at, refl)
accepted_read (refused n p) e = let z : ◌≡◌ {A = ℕ} 0 1 = cc in absurd (omega arith)

refused_fresh : (o : Outcome) (n : Refusal) → (opened_as o).answer ≡ Err n → (opened_as o).balance ≡ fresh_balance
refused_fresh (read d at) n e = let z : ◌≡◌ {A = ℕ} 0 1 = cc in absurd (omega arith)
refused_fresh (refused m p) n e = refl

-- An opening is accepted exactly when reading ends with a description.
pub accepted_exactly : (s : List ℕ) → OpensExactly s
accepted_exactly s =
    record {
      accepted = (accepted_read (reading s), λ r. ap (λ (o : Outcome). (opened_as o).answer) r.2);
      balance = λ d at e. ap (λ (o : Outcome). (opened_as o).balance) e;
      place = λ d at e. ap (λ (o : Outcome). (opened_as o).place) e;
      fresh = refused_fresh (reading s);
    }
