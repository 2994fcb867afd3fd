-- The soil records and the rain years of a book of one unit are read one by one. Assumes nothing.
use Prim.Native.Nat.{ℕ, zero, suc, ◌+◌, ◌-◌, ◌*◌, ◌≤◌, ◌<◌}
use mathlib.Core.Path.{◌≡◌, refl, sym, ◌∙◌}
use mathlib.Core.Bool.{false}
use mathlib.Core.List.{List, [], ◌∷◌, ◌++◌, map, append_assoc, append-nil}
use lib.ListN.{length, drop, length-append}
use lib.IntN.{pos}
use native.Mathlib.Omega.{arith}
use borrow.Author.Tests.{le-ltb, lt-leb, ne_eqb}
use Rattle.runoff.specs.declared.Measure.TheVariants.{Tenths}
use Rattle.runoff.specs.declared.Plot.{Plot}
use Rattle.runoff.specs.Record.{Year, area_of}
use Rattle.runoff.proofs.Record.{area_of_more}
use Rattle.record.specs.Described.{DescribedUnit}
use Rattle.record.specs.Entries.{soil_entry, year_entry}
use Rattle.record.specs.Fault.{soil_outside, rain_outside}
use Rattle.book.specs.Reading.{Description, clear, entry_verdict, ended, reading_from}
use Rattle.book.proofs.Entries.{reads_end, reads_clear}
use Rattle.cases.specs.Printed.{tenths}
use Rattle.cases.specs.OneUnit.{plots_bytes, rains_bytes}
use Rattle.window.specs.Window.{year_of}
use Rattle.window.specs.Refused.{soils_outside, rains_outside}
use Rattle.record.proofs.Faults.{or_left, or_right}
use Rattle.drift.proofs.Bytes.{left_length, left_on, ends_there, soil_stands, year_stands}

-- The outlet at the start of a book with 0 in all its entries, with the records read so far, and the description that it is.
abbrev pub outlet : List Plot → List Year → DescribedUnit
outlet plots years =
    record {
      at = 0;
      downstream = 0;
      extraction = 0;
      exports = 0;
      imports = 0;
      returns = 0;
      evaporation = 0;
      storage = pos 0;
      commitment = 0;
      plots = plots;
      years = years;
    }

abbrev pub alone : List Plot → List Year → Description
alone plots years = record { units = outlet plots years ∷ []; aquifers = [] }

-- An SU inside its values is not refused before any year, while there are fewer than 16 and the hectares stay inside.
soil_clear : (plots : List Plot) (p : Plot) (at : ℕ) → length plots < 16 → soil_outside p.cover p.soil p.hectares ≡ false → area_of plots + p.hectares ≤ 300000
    → entry_verdict (alone plots []) (soil_entry p) at ≡ clear
soil_clear plots p at few inside area = rw (lt-leb 16 (length plots) few, inside, le-ltb 300000 (area_of plots + p.hectares) area)

-- A PD inside its values is not refused after an SU, while there are fewer than 50 years.
year_clear : (plots : List Plot) (years : List Year) (p at : ℕ) → 0 < length plots → length years < 50 → rain_outside Tenths p ≡ false
    → entry_verdict (alone plots years) (year_entry (year_of p)) at ≡ clear
year_clear plots years p at soiled few inside = rw (ne_eqb (length plots) 0 (λ e. omega arith), lt-leb 50 (length years) few, inside)

-- Where these years are left, and nothing after them, reading keeps them all, and the description ends with them.
pub years_read : (g : ℕ) (s : List ℕ) (at : ℕ) (plots : List Plot) (years : List Year) (left : List ℕ) → length s - at < g
    → drop at s ≡ rains_bytes (map tenths left) → 0 < length plots → length years + length left ≤ 50 → rains_outside left ≡ false
    → reading_from g s at (alone plots years) ≡ ended (alone plots (years ++ map year_of left)) (at + 4 * length left)
years_read zero s at plots years left h e soiled few inside = absurd (omega arith)
years_read (suc g) s at plots years [] h e soiled few inside =
    reads_end g s at (alone plots years) (ends_there s at [] e refl)
    ∙ (λ i. ended (alone plots (sym (append-nil years) i)) (here i))
  where
    here : at ≡ at + 4 * 0
    here = omega arith
years_read (suc g) s at plots years (p ∷ left) h e soiled few inside =
    reads_clear g s at (alone plots years) (year_entry (year_of p)) (at + 4) (year_stands s at _ e (rains_bytes (map tenths left)) p refl)
    (year_clear plots years p at soiled (omega arith) (or_left (rain_outside Tenths p) _ inside))
    ∙ years_read g s (at + 4) plots (years ++ (year_of p ∷ [])) left (omega (arith, left_length s at _ e)) (left_on s at _ e 4) soiled
    (omega (arith, length-append years (year_of p ∷ []))) (or_right (rain_outside Tenths p) _ inside)
    ∙ (λ i. ended (alone plots (append_assoc years (year_of p ∷ []) (map year_of left) i)) (later i))
  where
    later : at + 4 + 4 * length left ≡ at + 4 * suc (length left)
    later = omega arith

-- Where soil records are left before the years, reading keeps them too.
pub soils_read : (g : ℕ) (s : List ℕ) (at : ℕ) (plots left : List Plot) (years : List ℕ) → length s - at < g
    → drop at s ≡ plots_bytes left ++ rains_bytes (map tenths years) → 0 < length plots + length left → length plots + length left ≤ 16
    → soils_outside left ≡ false → area_of plots + area_of left ≤ 300000 → length years ≤ 50 → rains_outside years ≡ false
    → reading_from g s at (alone plots []) ≡ ended (alone (plots ++ left) (map year_of years)) (at + 8 * length left + 4 * length years)
unfolding area_of
soils_read zero s at plots left years h e soiled few inside area short rains = absurd (omega arith)
soils_read (suc g) s at plots [] years h e soiled few inside area short rains =
    years_read (suc g) s at plots [] years h e (omega arith) (omega arith) rains
    ∙ (λ i. ended (alone (sym (append-nil plots) i) (map year_of years)) (here i))
  where
    here : at + 4 * length years ≡ at + 8 * 0 + 4 * length years
    here = omega arith
soils_read (suc g) s at plots (p ∷ left) years h e soiled few inside area short rains =
    let rest = plots_bytes left ++ rains_bytes (map tenths years) in
    reads_clear g s at (alone plots []) (soil_entry p) (at + 8) (soil_stands s at _ e rest p refl)
    (soil_clear plots p at (omega arith) (or_left (soil_outside p.cover p.soil p.hectares) _ inside) (omega arith))
    ∙ soils_read g s (at + 8) (plots ++ (p ∷ [])) left years (omega (arith, left_length s at _ e)) (left_on s at _ e 8)
    (omega (arith, length-append plots (p ∷ []))) (omega (arith, length-append plots (p ∷ []))) (or_right (soil_outside p.cover p.soil p.hectares) _ inside)
    (omega (arith, area_of_more plots p)) short rains
    ∙ (λ i. ended (alone (append_assoc plots (p ∷ []) left i) (map year_of years)) (later i))
  where
    later : at + 8 + 8 * length left + 4 * length years ≡ at + 8 * suc (length left) + 4 * length years
    later = omega arith
