-- A book without a PD is read alike by both rules, record by record. Assumes nothing.
use Rattle.std.specs.Prelude.{Option, Some, None, Ok}
use Prim.Native.Nat.{ℕ, zero, suc, ◌+◌, ◌-◌, ◌<◌}
use mathlib.Core.Path.{◌≡◌, refl, sym, ap, subst, subst⁻¹, ◌∙◌}
use mathlib.Core.Bool.{Bool, true, false, cond, not, ◌||◌}
use mathlib.Core.List.{List, [], ◌∷◌}
use lib.Dec.{eqb, leb, ltb}
use lib.ListN.{length, get_or, length-set}
use lib.Seq.{get_or-set_same, get_or-set_other}
use native.Mathlib.Omega.{arith}
use borrow.Author.Tests.{lt-ltb, le-ltb, eq-eqb, ne_eqb}
use Rattle.laws.proofs.Cases.{by_lt, by_eq}
use Rattle.laws.proofs.Every.{both}
use Rattle.laws.proofs.Arrays.{table_same}
use Rattle.model.specs.declared.Refusal.{Refusal}
use Rattle.model.specs.declared.Refusal.TheVariants.{OutOfSequence, TooMany, OutsideValues}
use Rattle.model.specs.declared.Unit.{Unit as BasinUnit}
use Rattle.model.specs.declared.Balance.{Balance}
use Rattle.model.specs.Fresh.{empty_unit}
use Rattle.model.specs.Answers.{Answer, accepted, refuse}
use Rattle.runoff.specs.declared.Measure.{Measure}
use Rattle.runoff.specs.declared.Measure.TheVariants.{Millimetres}
use Rattle.runoff.specs.Record.{of_rain, of_gauge}
use Rattle.record.specs.declared.UnitRecord.{UnitRecord}
use Rattle.record.specs.declared.Mark.{Mark}
use Rattle.record.specs.declared.Mark.TheVariants.{Un, Su, Pr, Pd, Af, Ac, Call}
use Rattle.record.specs.Bytes.{bits8}
use Rattle.record.specs.Fault.{rain_fault}
use Rattle.record.specs.Record.{spells, is_call, mark_of}
use Rattle.record.specs.Described.{DescribedUnit, add_plot, add_year, no_unit, unit_giving, unit_of}
use Rattle.record.specs.Entries.{Entry, unit_entry, soil_entry, year_entry, aquifer_entry, EntryAt, no_entry, failing, stands, whole_entry, entry_marked, entry_at}
use Rattle.book.specs.Reading.{Description, last_unit, last_sums, balance_of, Outcome, read, refused, ended_by, clear, faulty, unless_faulty, entry_verdict, with_unit, with_last, with_entry, reading_from, reading, opened_by, opened}
use Rattle.book.proofs.Entries.{Begun, standing, by_record, reads_end, reads_failing, reads_faulty, reads_clear}
use Rattle.book.proofs.Promises.{through_end}
use Rattle.book.proofs.Growing.{Good, good_start, good_entry, snoc_length, snoc_before, snoc_last}
use Rattle.listing.specs.Listing.{printed_by, printed}
use Rattle.millimetres.specs.Rule.{mm_runoff}
use Rattle.millimetres.specs.Opening.{is_pd, mm_entry_at, mm_rain_fault, mm_verdict, mm_balance, mm_reading_from, mm_opened, mm_printed, free_from, without_pd}
use Rattle.millimetres.proofs.Units.{InMm, in_mm_more, same_runoff}

-- The rain years of every unit are in millimetres.
abbrev Free : Description → Type 0
Free d = (k : ℕ) → k < length d.units → InMm (get_or d.units k no_unit).years

-- A record that is not a PD.
abbrev FreeEntry : Entry → Type 0
FreeEntry (unit_entry u) = Unit {0}
FreeEntry (soil_entry p) = Unit {0}
FreeEntry (year_entry y) = InMm (y ∷ [])
FreeEntry (aquifer_entry a) = Unit {0}

-- What stands at an offset is no PD.
abbrev FreeAt : EntryAt → Type 0
FreeAt no_entry = Unit {0}
FreeAt (failing n) = Unit {0}
FreeAt (stands e to) = FreeEntry e

abbrev NotPd : Option Mark → Type 0
NotPd (Some Un) = Unit {0}
NotPd (Some Su) = Unit {0}
NotPd (Some Pr) = Unit {0}
NotPd (Some Pd) = ⊥
NotPd (Some Af) = Unit {0}
NotPd (Some Ac) = Unit {0}
NotPd (Some Call) = Unit {0}
NotPd None = Unit {0}

either : (b : Bool) (x y : Option Mark) → NotPd x → NotPd y → NotPd (cond b x y)
either true x y p q = p
either false x y p q = q

mark_not_pd : (a b : ℕ) → spells a b 80 68 ≡ false → NotPd (mark_of a b)
mark_not_pd a b h =
    rw h
    (either (spells a b 80 82) (Some Pr) _ tt
    (either (spells a b 65 70) (Some Af) _ tt
    (either (spells a b 83 85) (Some Su) _ tt
    (either (spells a b 85 78) (Some Un) _ tt
    (either (spells a b 65 67) (Some Ac) _ tt
    (either (is_call a b) (Some Call) None tt tt))))))

module _ (s : List ℕ) (at : ℕ) where
  whole_free : (size : ℕ) (e : Entry) → FreeEntry e → FreeAt (whole_entry s at size e)
  whole_free size e f =
      by_lt (length s - at) size
      (λ l. rw (lt-ltb (length s - at) size l) tt)
      (λ l. rw (le-ltb (length s - at) size l) f)

  mark_free : (m : Option Mark) → NotPd m → FreeAt (entry_marked m s at)
  mark_free (Some Un) n = whole_free 31 _ tt
  mark_free (Some Su) n = whole_free 8 _ tt
  mark_free (Some Pr) n = whole_free 4 _ (refl, tt)
  mark_free (Some Pd) n = absurd n
  mark_free (Some Af) n = whole_free 34 _ tt
  mark_free (Some Ac) n = whole_free 22 _ tt
  mark_free (Some Call) n = tt
  mark_free None n = tt

  free_at : is_pd s at ≡ false → FreeAt (entry_at s at)
  unfolding entry_at
  free_at h =
      by_eq (length s - at) 0
      (λ e. rw (eq-eqb (length s - at) 0 e) tt)
      (λ e. rw (ne_eqb (length s - at) 0 e)
      (by_eq (length s - at) 1
      (λ g. rw (eq-eqb (length s - at) 1 g) tt)
      (λ g. rw (ne_eqb (length s - at) 1 g) (mark_free (mark_of (bits8 s at) (bits8 s (at + 1))) (mark_not_pd (bits8 s at) (bits8 s (at + 1)) h)))))

  free_entry : is_pd s at ≡ false → (e : Entry) (to : ℕ) → entry_at s at ≡ stands e to → FreeEntry e
  free_entry h e to q = subst FreeAt q (free_at h)

-- A record that is no PD keeps the rain of every unit in millimetres.
module _ (d : Description) (free : Free d) where
  free_unit : (u : DescribedUnit) → u.years ≡ [] → Free (with_unit d u)
  free_unit u y k h =
      by_eq k (length d.units)
      (λ q. rw (snoc_last d.units u no_unit k q, y) tt)
      (λ q. rw (snoc_before d.units u no_unit k (omega (arith, snoc_length d.units u no_unit))) (free k (omega (arith, snoc_length d.units u no_unit))))

  free_last : (u : DescribedUnit) → (length d.units - 1 < length d.units → InMm u.years) → Free (with_last d u)
  free_last u f k h =
      let i = length d.units - 1 in
      let l = length-set d.units i u in
      by_eq k i
      (λ q. let some : i < length d.units = omega (arith, l) in rw (q, get_or-set_same d.units i u no_unit some) (f some))
      (λ q. rw (get_or-set_other d.units i k u no_unit q) (free k (omega (arith, l))))

  keeps_free : (e : Entry) → Begun e → FreeEntry e → Free (with_entry d e)
  keeps_free (unit_entry u) b f = free_unit u b.1
  keeps_free (soil_entry p) b f = free_last (add_plot (last_unit d) p) (free (length d.units - 1))
  keeps_free (year_entry y) b f =
      free_last (add_year (last_unit d) y) (λ some. in_mm_more (last_unit d).years y (free (length d.units - 1) some) f)
  keeps_free (aquifer_entry a) b f = free

-- The balance is the same.
same_balance : (d : Description) → Good d → Free d → balance_of d ≡ mm_balance d
same_balance d good free =
    ap with_units
    (table_same 64 empty_unit (length d.units) _ _ good.few
    (λ k h. let u = get_or d.units k no_unit in ap (unit_giving u) (same_runoff u (good.kinds k h) (free k h))))
  where
    with_units : List BasinUnit → Balance
    with_units us =
        record {
          units = us;
          unit_count = length d.units;
          aquifers = (balance_of d).aquifers;
          aquifer_count = length d.aquifers;
          titles = (balance_of d).titles;
          given = 0;
        }

-- Two tests of one refusal, together and one after the other.
either_test : (a b : Bool) (r : Refusal) → refuse r (a || b) accepted ≡ refuse r a (refuse r b accepted)
either_test true b r = refl
either_test false b r = refl

-- A PR is refused alike, and so is every record but a PD.
same_rain : (units aquifers : ℕ) (u : UnitRecord) (m : Measure) (mm : ℕ) → m ≡ Millimetres → rain_fault units aquifers u m mm ≡ mm_rain_fault units aquifers u mm
same_rain units aquifers u m mm e =
    ap (λ (x : Measure). rain_fault units aquifers u x mm) e
    ∙ ap (λ (a : Answer). refuse OutOfSequence (ltb 0 aquifers) (refuse OutOfSequence (eqb units 0) (refuse OutOfSequence (eqb u.soils 0) (refuse TooMany (leb 50 u.years) a))))
    (either_test (ltb mm 350) (ltb 2150 mm) OutsideValues)

same_verdict : (d : Description) (e : Entry) (at : ℕ) → FreeEntry e → mm_verdict d e at ≡ entry_verdict d e at
same_verdict d (unit_entry u) at f = refl
same_verdict d (soil_entry p) at f = refl
same_verdict d (year_entry (of_rain r)) at f =
    ap (λ (a : Answer). unless_faulty a at clear)
    (sym (same_rain (length d.units) (length d.aquifers) (last_sums d) r.measure r.depth f.0))
same_verdict d (year_entry (of_gauge y)) at f = refl
same_verdict d (aquifer_entry a) at f = refl

-- One record more of reading by document 01.
module _ (f : ℕ) (s : List ℕ) (at : ℕ) (d : Description) where
  mm_end : mm_entry_at s at ≡ no_entry → mm_reading_from (suc f) s at d ≡ ended_by (mm_balance d) d at
  unfolding mm_reading_from
  mm_end h = rw (h, mm_reading_from)

  mm_failing : (n : Refusal) → mm_entry_at s at ≡ failing n → mm_reading_from (suc f) s at d ≡ refused n at
  unfolding mm_reading_from
  mm_failing n h = rw (h, mm_reading_from)

  mm_faulty : (e : Entry) (to : ℕ) (n : Refusal) (p : ℕ) → mm_entry_at s at ≡ stands e to → mm_verdict d e at ≡ faulty n p
      → mm_reading_from (suc f) s at d ≡ refused n p
  unfolding mm_reading_from
  mm_faulty e to n p h v = rw (h, v, mm_reading_from)

  mm_clear : (e : Entry) (to : ℕ) → mm_entry_at s at ≡ stands e to → mm_verdict d e at ≡ clear
      → mm_reading_from (suc f) s at d ≡ mm_reading_from f s to (with_entry d e)
  unfolding mm_reading_from
  mm_clear e to h v = rw (h, v, mm_reading_from)

not-true : (b : Bool) → not b ≡ true → b ≡ false
not-true true h = sym h
not-true false h = refl

-- No PD stands at the offset, nor at the records after it.
no_pd : (f : ℕ) (s : List ℕ) (at : ℕ) → free_from (suc f) s at ≡ true → is_pd s at ≡ false
unfolding free_from
no_pd f s at h = not-true (is_pd s at) (both (not (is_pd s at)) _ h).0

no_pd_after : (f : ℕ) (s : List ℕ) (at : ℕ) (e : Entry) (to : ℕ) → free_from (suc f) s at ≡ true → entry_at s at ≡ stands e to → free_from f s to ≡ true
unfolding free_from
no_pd_after f s at e to h q = (both (not (is_pd s at)) (free_from f s to) (rw q at h)).1

-- What reading ends with, where it is a description, is reached without a PD.
abbrev Reached : Outcome → Type 0
Reached (read d at) = Good d × Free d
Reached (refused n p) = Unit {0}

-- Reading gives the same by both rules.
record ReadsAlike (f : ℕ) (s : List ℕ) (at : ℕ) (d : Description) : Type 0 where
  same : reading_from f s at d ≡ mm_reading_from f s at d
  reached : Reached (reading_from f s at d)

reads_alike : (f : ℕ) (s : List ℕ) (at : ℕ) (d : Description) → Good d → Free d → free_from f s at ≡ true → ReadsAlike f s at d
unfolding reading_from mm_reading_from
reads_alike zero s at d good free h = record { same = refl; reached = tt }
reads_alike (suc f) s at d good free h =
    let none = no_pd f s at h in
    let entry : mm_entry_at s at ≡ entry_at s at = rw none in
    by_record s at d
    (λ q.
    record {
      same = reads_end f s at d q ∙ ap (λ (b : Balance). ended_by b d at) (same_balance d good free) ∙ sym (mm_end f s at d (entry ∙ q));
      reached = subst⁻¹ Reached (reads_end f s at d q) (through_end Reached (λ n p. tt) d at (λ c m k. (good, free)));
    })
    (λ n q.
    record {
      same = reads_failing f s at d n q ∙ sym (mm_failing f s at d n (entry ∙ q));
      reached = subst⁻¹ Reached (reads_failing f s at d n q) tt;
    })
    (λ e to n p q v.
    record {
      same = reads_faulty f s at d e to n p q v ∙ sym (mm_faulty f s at d e to n p (entry ∙ q) (same_verdict d e at (free_entry s at none e to q) ∙ v));
      reached = subst⁻¹ Reached (reads_faulty f s at d e to n p q v) tt;
    })
    (λ e to q v.
    let b = (standing s at e to q).begun in
    let g = free_entry s at none e to q in
    let rest = reads_alike f s to (with_entry d e) (good_entry d good e at v b) (keeps_free d free e b g) (no_pd_after f s at e to h q) in
    record {
      same = reads_clear f s at d e to q v ∙ rest.same ∙ sym (mm_clear f s at d e to (entry ∙ q) (same_verdict d e at g ∙ v));
      reached = subst⁻¹ Reached (reads_clear f s at d e to q v) rest.reached;
    })

module _ (s : List ℕ) (h : without_pd s ≡ true) where
  whole : ReadsAlike (length s + 1) s 0 (record { units = []; aquifers = [] })
  whole = reads_alike (length s + 1) s 0 (record { units = []; aquifers = [] }) good_start (λ k l. absurd (omega arith)) h

  -- The natural runoff of each unit of an accepted book without a PD is the mean by document 01's rule.
  pub means_as_before : (d : Description) (at : ℕ) → reading s ≡ read d at → (k : ℕ) → k < length d.units
      → (unit_of (get_or d.units k no_unit)).runoff ≡ mm_runoff (get_or d.units k no_unit).plots (get_or d.units k no_unit).years
  means_as_before d at e k l =
      let r : Good d × Free d = subst Reached e whole.reached in
      same_runoff (get_or d.units k no_unit) (r.0.kinds k l) (r.1 k l)

  -- Its opening is the same: accepted or refused, under the same number and place, and the balance.
  pub opens_as_before : opened s ≡ mm_opened s
  opens_as_before = same_opened (reading s) whole.reached ∙ ap (opened_by mm_balance) whole.same
    where
      same_opened : (o : Outcome) → Reached o → opened_by balance_of o ≡ opened_by mm_balance o
      same_opened (read d at) r = ap (λ (b : Balance). record { answer = Ok tt; place = at; balance = b }) (same_balance d r.0 r.1)
      same_opened (refused n p) r = refl

  -- Books without a PD mark print as before.
  pub prints_as_before : printed s ≡ mm_printed s
  prints_as_before = ap (printed_by s) opens_as_before
