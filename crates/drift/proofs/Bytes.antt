-- A record's bytes, where they stand, are read as that record. Assumes nothing.
use Rattle.std.specs.Prelude.{Option, Some}
use Prim.Native.Nat.{ℕ, ◌+◌, ◌-◌, ◌*◌, ◌/◌, ◌%◌, ◌≤◌}
use mathlib.Core.Path.{◌≡◌, refl, sym, ap, ap₂, ◌∙◌}
use mathlib.Core.List.{List, ◌++◌}
use lib.ListN.{length, get_or, drop, length-drop}
use lib.Seq.{get_or-drop, drop-drop}
use native.Mathlib.Nat.{mod-add-div}
use native.Mathlib.Omega.{arith}
use borrow.Author.Tests.{le-ltb, eq-eqb, ne_eqb}
use Rattle.runoff.specs.declared.Plot.{Plot}
use Rattle.record.specs.declared.Mark.{Mark}
use Rattle.record.specs.declared.Mark.TheVariants.{Su, Pd}
use Rattle.record.specs.Bytes.{bits8, bits16, bits32}
use Rattle.record.specs.Record.{mark_of}
use Rattle.record.specs.Described.{plot_at}
use Rattle.record.specs.Entries.{Entry, soil_entry, year_entry, no_entry, stands, whole_entry, entry_marked, entry_at}
use Rattle.window.specs.Window.{year_of}
use Rattle.cases.specs.Printed.{soil_bytes, tenths, rain_bytes}

-- 16 and 32 bits read back.
module _ (n : ℕ) where
  pub read16 : n % 256 + 256 * (n / 256) ≡ n
  read16 = mod-add-div n 256

  pub read32 : n % 65536 % 256 + 256 * (n % 65536 / 256) + 65536 * (n / 65536 % 256 + 256 * (n / 65536 / 256)) ≡ n
  read32 =
      let low = mod-add-div (n % 65536) 256 in
      let high = mod-add-div (n / 65536) 256 in
      let whole = mod-add-div n 65536 in
      omega (arith, low, high, whole)

-- From an offset on, a book holds these bytes.
module _ (s : List ℕ) (at : ℕ) (t : List ℕ) (left : drop at s ≡ t) where
  pub left_length : length s - at ≡ length t
  left_length = sym (length-drop at s) ∙ ap length left

  pub left_at : (k i : ℕ) → i ≡ at + k → get_or s i 0 ≡ get_or t k 0
  left_at k i e = ap (λ (j : ℕ). get_or s j 0) e ∙ sym (get_or-drop at s k 0) ∙ ap (λ (l : List ℕ). get_or l k 0) left

  pub left_on : (n : ℕ) → drop (at + n) s ≡ drop n t
  left_on n = sym (drop-drop n at s) ∙ ap (drop n) left

  -- Nothing is left, or a record of so many bytes by its mark.
  pub ends_there : length t ≡ 0 → entry_at s at ≡ no_entry
  unfolding entry_at
  ends_there e = rw (eq-eqb (length s - at) 0 (left_length ∙ e))

  stands_marked : (size : ℕ) (m : Mark) (e : Entry) → 2 ≤ size → size ≤ length t → mark_of (bits8 s at) (bits8 s (at + 1)) ≡ Some m
      → entry_marked (Some m) s at ≡ whole_entry s at size e → entry_at s at ≡ stands e (at + size)
  unfolding entry_at
  stands_marked size m e two long mark whole =
      let some : length s - at ≡ 0 → ⊥ = λ q. omega (arith, left_length) in
      let more : length s - at ≡ 1 → ⊥ = λ q. omega (arith, left_length) in
      rw (ne_eqb (length s - at) 0 some, ne_eqb (length s - at) 1 more)
      (ap (λ (o : Option Mark). entry_marked o s at) mark ∙ whole ∙ rw (le-ltb (length s - at) size (omega (arith, left_length))))

  -- An SU of a soil record, and a PD of a year's rain, are read as these.
  module _ (rest : List ℕ) where
    pub soil_stands : (p : Plot) → t ≡ soil_bytes p.cover p.soil p.hectares ++ rest → entry_at s at ≡ stands (soil_entry p) (at + 8)
    soil_stands p e =
        stands_marked 8 Su (soil_entry p) (omega arith) (omega (arith, ap length e))
        (ap₂ mark_of (byte 0 at (omega arith)) (byte 1 (at + 1) refl))
        (ap (λ (q : Plot). whole_entry s at 8 (soil_entry q)) same)
      where
        byte : (k i : ℕ) → i ≡ at + k → get_or s i 0 ≡ get_or (soil_bytes p.cover p.soil p.hectares ++ rest) k 0
        byte k i q = left_at k i q ∙ ap (λ (l : List ℕ). get_or l k 0) e

        same : plot_at s at ≡ p
        same = λ i.
            record {
              cover = byte 2 (at + 2) refl i;
              soil = byte 3 (at + 3) refl i;
              hectares = (hectares ∙ read32 p.hectares) i;
            }
          where
            hectares : bits32 s (at + 4) ≡ bits32 (soil_bytes p.cover p.soil p.hectares ++ rest) 4
            hectares = λ i.
                byte 4 (at + 4) refl i + 256 * byte 5 (at + 4 + 1) (omega arith) i
                + 65536 * (byte 6 (at + 4 + 2) (omega arith) i + 256 * byte 7 (at + 4 + 2 + 1) (omega arith) i)

    pub year_stands : (p : ℕ) → t ≡ rain_bytes (tenths p) ++ rest → entry_at s at ≡ stands (year_entry (year_of p)) (at + 4)
    year_stands p e =
        stands_marked 4 Pd (year_entry (year_of p)) (omega arith) (omega (arith, ap length e))
        (ap₂ mark_of (byte 0 at (omega arith)) (byte 1 (at + 1) refl))
        (ap (λ (q : ℕ). whole_entry s at 4 (year_entry (year_of q))) same)
      where
        byte : (k i : ℕ) → i ≡ at + k → get_or s i 0 ≡ get_or (rain_bytes (tenths p) ++ rest) k 0
        byte k i q = left_at k i q ∙ ap (λ (l : List ℕ). get_or l k 0) e

        same : bits16 s (at + 2) ≡ p
        same = (λ i. byte 2 (at + 2) refl i + 256 * byte 3 (at + 2 + 1) (omega arith) i) ∙ read16 p
