-- What holds of the record that stands at an offset, and of one that is not refused. Assumes nothing.
use Rattle.std.specs.Prelude.{Option, Some, None, Ok, Err}
use Prim.Native.Nat.{ℕ, suc, ◌+◌, ◌-◌, ◌≤◌, ◌<◌}
use mathlib.Core.Path.{◌≡◌, refl, subst}
use mathlib.Core.List.{List, []}
use lib.ListN.{length}
use native.Mathlib.Omega.{arith}
use borrow.Author.Tests.{lt-ltb, le-ltb, eq-eqb, ne_eqb}
use Rattle.laws.proofs.Cases.{by_lt, by_eq}
use Rattle.model.specs.declared.Refusal.{Refusal}
use Rattle.model.specs.Answers.{Answer}
use Rattle.record.specs.declared.Mark.{Mark}
use Rattle.record.specs.declared.Mark.TheVariants.{Un, Su, Pr, Pd, Af, Ac, Call}
use Rattle.record.specs.Bytes.{bits8}
use Rattle.record.specs.Record.{mark_of}
use Rattle.record.specs.Entries.{Entry, unit_entry, soil_entry, year_entry, aquifer_entry, EntryAt, no_entry, failing, stands, whole_entry, entry_marked, entry_at}
use Rattle.book.specs.Reading.{Description, Verdict, clear, faulty, unless_faulty, with_entry, entry_verdict, ended, refused, reading_from}

-- A unit begins with no soil records and no years.
abbrev pub Begun : Entry → Type 0
Begun (unit_entry u) = (u.plots ≡ []) × (u.years ≡ [])
Begun (soil_entry p) = Unit {0}
Begun (year_entry y) = Unit {0}
Begun (aquifer_entry a) = Unit {0}

-- A record that stands leaves its own offset behind and stays within the book.
pub record Standing (s : List ℕ) (at : ℕ) (e : Entry) (to : ℕ) : Type 0 where
  pub onward : at < to
  pub within : to ≤ length s
  pub begun : Begun e

abbrev StandingAt : List ℕ → ℕ → EntryAt → Type 0
StandingAt s at no_entry = Unit {0}
StandingAt s at (failing n) = Unit {0}
StandingAt s at (stands e to) = Standing s at e to

module _ (s : List ℕ) (at : ℕ) where
  whole_standing : (size : ℕ) (e : Entry) → 0 < size → Begun e → StandingAt s at (whole_entry s at size e)
  whole_standing size e h b =
      by_lt (length s - at) size
      (λ l. rw (lt-ltb (length s - at) size l) tt)
      (λ l. rw (le-ltb (length s - at) size l) (record { onward = omega arith; within = omega arith; begun = b }))

  mark_standing : (m : Option Mark) → StandingAt s at (entry_marked m s at)
  mark_standing (Some Un) = whole_standing 31 _ (omega arith) (refl, refl)
  mark_standing (Some Su) = whole_standing 8 _ (omega arith) tt
  mark_standing (Some Pr) = whole_standing 4 _ (omega arith) tt
  mark_standing (Some Pd) = whole_standing 4 _ (omega arith) tt
  mark_standing (Some Af) = whole_standing 34 _ (omega arith) tt
  mark_standing (Some Ac) = whole_standing 22 _ (omega arith) tt
  mark_standing (Some Call) = tt
  mark_standing None = tt

  all_standing : StandingAt s at (entry_at s at)
  unfolding entry_at
  all_standing =
      by_eq (length s - at) 0
      (λ e. rw (eq-eqb (length s - at) 0 e) tt)
      (λ e. rw (ne_eqb (length s - at) 0 e)
      (by_eq (length s - at) 1
      (λ g. rw (eq-eqb (length s - at) 1 g) tt)
      (λ g. rw (ne_eqb (length s - at) 1 g) (mark_standing (mark_of (bits8 s at) (bits8 s (at + 1)))))))

  pub standing : (e : Entry) (to : ℕ) → entry_at s at ≡ stands e to → Standing s at e to
  standing e to h = subst (StandingAt s at) h all_standing

-- A verdict is clear where neither this fault nor a later one is found.
pub record Cleared (fault : Answer) (rest : Verdict) : Type 0 where
  pub here : fault ≡ Ok tt
  pub later : rest ≡ clear

pub cleared : (fault : Answer) (place : ℕ) (rest : Verdict) → unless_faulty fault place rest ≡ clear → Cleared fault rest
cleared (Ok u) place rest h = record { here = refl; later = h }
cleared (Err r) place rest h = let z : ◌≡◌ {A = ℕ} 0 1 = cc in absurd (omega arith)

-- One record more of the definition of reading.
module _ (f : ℕ) (s : List ℕ) (at : ℕ) (d : Description) where
  pub reads_end : entry_at s at ≡ no_entry → reading_from (suc f) s at d ≡ ended d at
  unfolding reading_from
  reads_end h = rw (h, reading_from)

  pub reads_failing : (n : Refusal) → entry_at s at ≡ failing n → reading_from (suc f) s at d ≡ refused n at
  unfolding reading_from
  reads_failing n h = rw (h, reading_from)

  pub reads_faulty : (e : Entry) (to : ℕ) (n : Refusal) (p : ℕ) → entry_at s at ≡ stands e to → entry_verdict d e at ≡ faulty n p → reading_from (suc f) s at d ≡ refused n p
  unfolding reading_from
  reads_faulty e to n p h v = rw (h, v, reading_from)

  pub reads_clear : (e : Entry) (to : ℕ) → entry_at s at ≡ stands e to → entry_verdict d e at ≡ clear
      → reading_from (suc f) s at d ≡ reading_from f s to (with_entry d e)
  unfolding reading_from
  reads_clear e to h v = rw (h, v, reading_from)

-- By what stands at an offset: nothing, a record that fails, one that is refused, or one that is kept.
pub by_record : {X : Type 0} (s : List ℕ) (at : ℕ) (d : Description) → (entry_at s at ≡ no_entry → X) → ((n : Refusal) → entry_at s at ≡ failing n → X)
    → ((e : Entry) (to : ℕ) (n : Refusal) (p : ℕ) → entry_at s at ≡ stands e to → entry_verdict d e at ≡ faulty n p → X)
    → ((e : Entry) (to : ℕ) → entry_at s at ≡ stands e to → entry_verdict d e at ≡ clear → X) → X
by_record {X} s at d none fails bad kept = by_entry (entry_at s at) refl
  where
    by_verdict : (e : Entry) (to : ℕ) → entry_at s at ≡ stands e to → (v : Verdict) → entry_verdict d e at ≡ v → X
    by_verdict e to h clear v = kept e to h v
    by_verdict e to h (faulty n p) v = bad e to n p h v

    by_entry : (x : EntryAt) → entry_at s at ≡ x → X
    by_entry no_entry h = none h
    by_entry (failing n) h = fails n h
    by_entry (stands e to) h = by_verdict e to h (entry_verdict d e at) refl
