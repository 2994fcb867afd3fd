-- What the code's step tells of the record at an offset is what the definition of reading says of it. Assumes nothing.
use Rattle.std.specs.Prelude.{Option, Some, None, Ok, Err}
use Prim.Native.Nat.{ℕ, suc, ◌+◌, ◌-◌, ◌≤◌, ◌<◌}
use mathlib.Core.Path.{◌≡◌, refl, sym, ◌∙◌}
use mathlib.Core.List.{List}
use lib.ListN.{length}
use borrow.Author.Tests.{lt-ltb, le-ltb, eq-eqb, ne_eqb}
use Rattle.laws.proofs.Cases.{by_lt, by_eq}
use Rattle.model.specs.declared.Refusal.{Refusal}
use Rattle.model.specs.declared.Refusal.TheVariants.{Short, UnknownMark}
use Rattle.model.specs.declared.Aquifer.{Aquifer}
use Rattle.model.specs.Answers.{Answer}
use Rattle.runoff.specs.declared.Measure.{Measure}
use Rattle.runoff.specs.declared.Measure.TheVariants.{Millimetres, Tenths}
use Rattle.runoff.specs.Record.{of_rain, of_gauge}
use Rattle.record.specs.declared.UnitRecord.{UnitRecord}
use Rattle.record.specs.declared.Mark.{Mark}
use Rattle.record.specs.declared.Mark.TheVariants.{Un, Su, Pr, Pd, Af, Ac, Call}
use Rattle.record.specs.Bytes.{bits8, bits16, bits32}
use Rattle.record.specs.Record.{unit_record, aquifer_record, mark_of}
use Rattle.record.specs.Described.{DescribedUnit, unit_at, plot_at, rain_at, gauged_at, add_plot, add_year, summed}
use Rattle.record.specs.Entries.{Entry, unit_entry, soil_entry, year_entry, aquifer_entry, no_entry, failing, stands, whole_entry, entry_marked, entry_at}
use Rattle.record.specs.Fault.{closing_fault, unit_fault, soil_fault, rain_fault, gauge_fault, aquifer_fault, gauge_outside_at}
use Rattle.record.proofs.Faults.{soil_clean, rain_clean, gauge_clean}
use Rattle.record.proofs.Summing.{summed_unit, summed_soil, summed_rain, summed_gauge}
use Rattle.book.specs.declared.Next.TheVariants.{Ends, Opens, Grows, Adds}
use Rattle.book.specs.Reading.{Description, last_unit, last_sums, with_last, with_entry, Verdict, clear, faulty, unless_faulty, entry_verdict, refused, reading_from}
use Rattle.book.specs.Steps.{Step, failed_step, unless, whole_record, rain_step, marked, next}
use Rattle.book.proofs.Entries.{reads_failing, reads_faulty}

-- A UN that opens a unit: it stands there and is not refused, and the sums that are told are the unit's.
pub record OpensTold (s : List ℕ) (at : ℕ) (d : Description) (v : UnitRecord) (to : ℕ) : Type 0 where
  pub unit : DescribedUnit
  pub found : entry_at s at ≡ stands (unit_entry unit) to
  pub passed : entry_verdict d (unit_entry unit) at ≡ clear
  pub sums : v ≡ summed unit

-- A record that belongs to the open unit: the sums that are told are those of the unit with it.
pub record GrowsTold (s : List ℕ) (at : ℕ) (d : Description) (v : UnitRecord) (to : ℕ) : Type 0 where
  pub entry : Entry
  pub unit : DescribedUnit
  pub found : entry_at s at ≡ stands entry to
  pub passed : entry_verdict d entry at ≡ clear
  pub kept : with_entry d entry ≡ with_last d unit
  pub after : length d.units ≡ 0 → ⊥
  pub sums : v ≡ summed unit

-- An AC that adds an aquifer.
pub record AddsTold (s : List ℕ) (at : ℕ) (d : Description) (a : Aquifer) (to : ℕ) : Type 0 where
  pub found : entry_at s at ≡ stands (aquifer_entry a) to
  pub passed : entry_verdict d (aquifer_entry a) at ≡ clear

-- What is told is so: there is no record, reading is refused, or a record stands there and is kept.
abbrev pub Told : List ℕ → ℕ → Description → Step → Type 0
Told s at d (Ok Ends) = entry_at s at ≡ no_entry
Told s at d (Err x) = (f : ℕ) → reading_from (suc f) s at d ≡ refused x.refusal x.place
Told s at d (Ok (Opens v to)) = OpensTold s at d v to
Told s at d (Ok (Grows v to)) = GrowsTold s at d v to
Told s at d (Ok (Adds a to)) = AddsTold s at d a to

-- What holds of a refusal where there is a fault, and of what goes on where there is none, holds of both together.
module _ (P : Step → Type 0) where
  through_unless : (fault : Answer) (place : ℕ) (go : Step) → ((r : Refusal) → fault ≡ Err r → P (failed_step r place)) → (fault ≡ Ok tt → P go) → P (unless fault place go)
  through_unless (Ok u) place go bad on = on refl
  through_unless (Err r) place go bad on = bad r refl

  through_whole : (s : List ℕ) (at size : ℕ) (go : Step) → (length s - at < size → P (failed_step Short at)) → (size ≤ length s - at → P go)
      → P (whole_record s at size go)
  through_whole s at size go bad on =
      by_lt (length s - at) size (λ h. rw (lt-ltb (length s - at) size h) (bad h)) (λ h. rw (le-ltb (length s - at) size h) (on h))

-- A fault that is found, and one that is not.
found_faulty : (fault : Answer) (place : ℕ) (rest : Verdict) (r : Refusal) → fault ≡ Err r → unless_faulty fault place rest ≡ faulty r place
found_faulty fault place rest r e = rw e

found_none : (fault : Answer) (place : ℕ) (rest : Verdict) → fault ≡ Ok tt → unless_faulty fault place rest ≡ rest
found_none fault place rest e = rw e

module _ (s : List ℕ) (at : ℕ) (d : Description) where
  abbrev units : ℕ
  units = length d.units

  abbrev aquifers : ℕ
  aquifers = length d.aquifers

  -- Fewer bytes left than the record's, and enough.
  short : (size : ℕ) (e : Entry) → entry_at s at ≡ whole_entry s at size e → length s - at < size → Told s at d (failed_step Short at)
  short size e h l f = reads_failing f s at d Short (h ∙ rw (lt-ltb (length s - at) size l))

  enough : (size : ℕ) (e : Entry) → entry_at s at ≡ whole_entry s at size e → size ≤ length s - at → entry_at s at ≡ stands e (at + size)
  enough size e h l = h ∙ rw (le-ltb (length s - at) size l)

  -- A record with one test, by its fault.
  one_told : (size : ℕ) (fault : Answer) (e : Entry) (go : Step) → entry_at s at ≡ whole_entry s at size e → entry_verdict d e at ≡ unless_faulty fault at clear
      → (entry_at s at ≡ stands e (at + size) → entry_verdict d e at ≡ clear → fault ≡ Ok tt → Told s at d go)
      → Told s at d (whole_record s at size (unless fault at go))
  one_told size fault e go h v on =
      through_whole (Told s at d) s at size _ (short size e h)
      (λ l. through_unless (Told s at d) fault at go
      (λ r n f. reads_faulty f s at d e (at + size) r at (enough size e h l) (v ∙ found_faulty fault at clear r n))
      (λ z. on (enough size e h l) (v ∙ found_none fault at clear z) z))

  -- A record that first closes the open unit, by both faults.
  two_told : (size : ℕ) (closing fault : Answer) (e : Entry) (go : Step) → entry_at s at ≡ whole_entry s at size e
      → entry_verdict d e at ≡ unless_faulty closing (last_unit d).at (unless_faulty fault at clear)
      → (entry_at s at ≡ stands e (at + size) → entry_verdict d e at ≡ clear → Told s at d go)
      → Told s at d (whole_record s at size (unless closing (last_unit d).at (unless fault at go)))
  two_told size closing fault e go h v on =
      through_whole (Told s at d) s at size _ (short size e h)
      (λ l. through_unless (Told s at d) closing (last_unit d).at _
      (λ r n f. reads_faulty f s at d e (at + size) r (last_unit d).at (enough size e h l) (v ∙ found_faulty closing (last_unit d).at _ r n))
      (λ z. through_unless (Told s at d) fault at go
      (λ r n f. reads_faulty f s at d e (at + size) r at (enough size e h l) (v ∙ found_none closing (last_unit d).at _ z ∙ found_faulty fault at clear r n))
      (λ q. on (enough size e h l) (v ∙ found_none closing (last_unit d).at _ z ∙ found_none fault at clear q))))

  rain_told : (m : Measure) → entry_at s at ≡ whole_entry s at 4 (year_entry (of_rain (rain_at m s at)))
      → Told s at d (rain_step m s at (last_sums d) units aquifers)
  rain_told m h =
      one_told 4 (rain_fault units aquifers (last_sums d) m (bits16 s (at + 2))) (year_entry (of_rain (rain_at m s at))) _ h refl
      (λ e v z.
      record {
        entry = year_entry (of_rain (rain_at m s at));
        unit = add_year (last_unit d) (of_rain (rain_at m s at));
        found = e;
        passed = v;
        kept = refl;
        after = (rain_clean units aquifers (last_sums d) m (bits16 s (at + 2)) z).after;
        sums = sym (summed_rain m s at (last_unit d));
      })

  mark_told : (m : Option Mark) → entry_at s at ≡ entry_marked m s at → Told s at d (marked m s at (last_sums d) units aquifers)
  mark_told (Some Un) h =
      two_told 31 (closing_fault units (last_sums d)) (unit_fault units aquifers (unit_record s at)) (unit_entry (unit_at s at)) _ h refl
      (λ e v. record { unit = unit_at s at; found = e; passed = v; sums = sym (summed_unit s at) })
  mark_told (Some Su) h =
      one_told 8 (soil_fault units aquifers (last_sums d) (bits8 s (at + 2)) (bits8 s (at + 3)) (bits32 s (at + 4))) (soil_entry (plot_at s at)) _ h refl
      (λ e v z.
      let c = soil_clean units aquifers (last_sums d) (bits8 s (at + 2)) (bits8 s (at + 3)) (bits32 s (at + 4)) z in
      record {
        entry = soil_entry (plot_at s at);
        unit = add_plot (last_unit d) (plot_at s at);
        found = e;
        passed = v;
        kept = refl;
        after = c.after;
        sums = sym (summed_soil s at (last_unit d) c.fresh);
      })
  mark_told (Some Pr) h = rain_told Millimetres h
  mark_told (Some Pd) h = rain_told Tenths h
  mark_told (Some Af) h =
      one_told 34 (gauge_fault units aquifers (last_sums d) (gauge_outside_at s at)) (year_entry (of_gauge (gauged_at s at))) _ h refl
      (λ e v z.
      record {
        entry = year_entry (of_gauge (gauged_at s at));
        unit = add_year (last_unit d) (of_gauge (gauged_at s at));
        found = e;
        passed = v;
        kept = refl;
        after = (gauge_clean units aquifers (last_sums d) (gauge_outside_at s at) z).after;
        sums = sym (summed_gauge s at (last_unit d));
      })
  mark_told (Some Ac) h =
      two_told 22 (closing_fault units (last_sums d)) (aquifer_fault aquifers (aquifer_record s at)) (aquifer_entry (aquifer_record s at)) _ h refl
      (λ e v. record { found = e; passed = v })
  mark_told (Some Call) h = h
  mark_told None h = λ f. reads_failing f s at d UnknownMark h

  -- What stands at an offset: nothing, a lone byte, or a mark.
  entry_end : length s - at ≡ 0 → entry_at s at ≡ no_entry
  unfolding entry_at
  entry_end e = rw (eq-eqb (length s - at) 0 e)

  entry_lone : (length s - at ≡ 0 → ⊥) → length s - at ≡ 1 → entry_at s at ≡ failing Short
  unfolding entry_at
  entry_lone n e = rw (ne_eqb (length s - at) 0 n, eq-eqb (length s - at) 1 e)

  entry_marked_lem : (length s - at ≡ 0 → ⊥) → (length s - at ≡ 1 → ⊥) → entry_at s at ≡ entry_marked (mark_of (bits8 s at) (bits8 s (at + 1))) s at
  unfolding entry_at
  entry_marked_lem n e = rw (ne_eqb (length s - at) 0 n, ne_eqb (length s - at) 1 e)

  pub next_told : Told s at d (next s at (last_sums d) units aquifers)
  unfolding next
  next_told =
      by_eq (length s - at) 0
      (λ e. rw (eq-eqb (length s - at) 0 e) (entry_end e))
      (λ e. rw (ne_eqb (length s - at) 0 e)
      (by_eq (length s - at) 1
      (λ g. rw (eq-eqb (length s - at) 1 g) (λ f. reads_failing f s at d Short (entry_lone e g)))
      (λ g. rw (ne_eqb (length s - at) 1 g) (mark_told (mark_of (bits8 s at) (bits8 s (at + 1))) (entry_marked_lem e g)))))
