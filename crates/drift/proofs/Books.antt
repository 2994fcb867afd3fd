-- A book of one unit opens a balance of that unit. Assumes nothing.
use Rattle.std.specs.Prelude.{None, Ok}
use Prim.Native.Nat.{ℕ, suc, ◌+◌, ◌-◌, ◌≤◌, ◌<◌}
use mathlib.Core.Path.{◌≡◌, refl, ap, ◌∙◌}
use mathlib.Core.Bool.{Bool, true, false, not}
use mathlib.Core.List.{List, [], ◌∷◌, ◌++◌, map}
use lib.Dec.{eqb, ltb}
use lib.Signed.{non_neg}
use lib.IntN.{pos, ◌+ℤ◌}
use lib.ListN.{length, get_or, length-map, replicate}
use native.Mathlib.Omega.{arith}
use borrow.Author.Tests.{le-ltb, ne_eqb}
use Rattle.laws.specs.Sum.{sum_of}
use Rattle.laws.specs.Table.{tabulate, table}
use Rattle.laws.proofs.Arrays.{get_or_table}
use Rattle.laws.proofs.Parts.{less_pos, less_plus, less_non_neg}
use Rattle.model.specs.declared.Unit.{Unit as BasinUnit}
use Rattle.model.specs.Answers.{first_from, first}
use Rattle.model.proofs.Answers.{pass}
use Rattle.model.specs.Fresh.{empty_unit, empty_aquifer, empty_place}
use Rattle.model.specs.View.{view_of}
use Rattle.runoff.specs.declared.Plot.{Plot}
use Rattle.runoff.specs.Record.{Year, area_of, runoff_of}
use Rattle.river.specs.Flow.{net, flow}
use Rattle.river.proofs.Flows.{flow_is, net_parts}
use Rattle.record.specs.Described.{no_unit, summed, unit_of}
use Rattle.record.specs.Entries.{unit_entry, stands, entry_at}
use Rattle.record.specs.Fault.{closing_fault}
use Rattle.book.specs.Reading.{Description, balance_of, read, missing, negative, ended, reading_from, reading, opened_as}
use Rattle.book.proofs.Entries.{reads_clear}
use Rattle.cases.specs.Printed.{unit_bytes, tenths}
use Rattle.cases.specs.OneUnit.{plots_bytes, rains_bytes, rain_book, opens_one}
use Rattle.window.specs.Window.{year_of}
use Rattle.window.specs.Refused.{bad_window, soils_outside, rains_outside}
use Rattle.window.proofs.Accepted.{handed_accepted}
use Rattle.drift.specs.Windows.{Bookable, book_size, OneUnitBook}
use Rattle.drift.proofs.Growing.{outlet, alone, soils_read}

-- The UN at the start of the book.
unit_stands : (rest : List ℕ) → entry_at (unit_bytes 0 0 0 ++ rest) 0 ≡ stands (unit_entry (outlet [] [])) 31
unfolding entry_at
unit_stands rest =
    let s : List ℕ = unit_bytes 0 0 0 ++ rest in
    let long : length s ≡ 31 + length rest = omega arith in
    rw (ne_eqb (length s - 0) 0 (λ e. omega (arith, long)), ne_eqb (length s - 0) 1 (λ e. omega (arith, long)))
    (rw (le-ltb (length s - 0) 31 (omega (arith, long))))

-- Of one place, the first at which a test holds is none where it fails there.
first_of_one : (t : ℕ → Bool) → t 0 ≡ false → first 1 t ≡ None
unfolding first_from
first_of_one t e = rw (e, first_from)

module _ (plots : List Plot) (years : List Year) where
  -- The balance's first unit, and its flow: with 0 in all entries it is not negative.
  first_unit : (view_of (balance_of (alone plots years))).unit 0 ≡ unit_of (outlet plots years)
  first_unit =
      get_or_table 64 empty_unit 1 (λ k. unit_of (get_or (outlet plots years ∷ []) k no_unit)) 0 (omega arith) (omega arith)

  flows : non_neg (flow (view_of (balance_of (alone plots years))) 0) ≡ true
  unfolding sum_of
  flows =
      ap non_neg (flow_is (view_of (balance_of (alone plots years))) 0 ∙ ap (λ (u : BasinUnit). pos 0 +ℤ net u) first_unit)
      ∙ less_non_neg (less_plus (less_pos 0) (net_parts (unit_of (outlet plots years)))) (omega arith)

  -- The end of the description finds no fault.
  closes : 0 < length plots → 20 ≤ length years → closing_fault 1 (summed (outlet plots years)) ≡ Ok tt
  closes soiled enough = rw (le-ltb (length years) 20 enough, ne_eqb (length plots) 0 (λ e. omega arith))

  no_missing : missing (alone plots years) ≡ None
  no_missing = first_of_one _ refl

  no_negative : negative (balance_of (alone plots years)) (alone plots years) ≡ None
  no_negative = first_of_one _ (ap not flows)

  all_kept : (at : ℕ) → 0 < length plots → 20 ≤ length years → ended (alone plots years) at ≡ read (alone plots years) at
  all_kept at soiled enough = rw (closes soiled enough, no_missing, no_negative)

-- A table with one place in use, and with none.
one_used : {A : Type 0} (d : A) (f : ℕ → A) → table 64 d 1 f ≡ f 0 ∷ replicate 63 d
unfolding table tabulate
one_used d f = refl

none_used : {A : Type 0} (d : A) (f : ℕ → A) → table 32 d 0 f ≡ replicate 32 d
unfolding table tabulate
none_used d f = refl

-- What the description opens.
lone_opened : (plots : List Plot) (years : List Year) (at : ℕ) → opened_as (read (alone plots years) at) ≡ opens_one at (runoff_of plots years)
lone_opened plots years at = λ i.
    record {
      answer = Ok tt;
      place = at;
      balance =
          record {
            units = one_used empty_unit (λ k. unit_of (get_or (outlet plots years ∷ []) k no_unit)) i;
            unit_count = 1;
            aquifers = none_used empty_aquifer (λ k. get_or [] k empty_aquifer) i;
            aquifer_count = 0;
            titles = replicate 256 empty_place;
            given = 0;
          };
    }

-- The book is read whole, and gives the mean of its years.
module _ (plots : List Plot) (years : List ℕ) where
  abbrev rest : List ℕ
  rest = plots_bytes plots ++ rains_bytes (map tenths years)

  -- No soil record and no year is outside its values.
  inside : Bookable plots years → (soils_outside plots ≡ false) × (rains_outside years ≡ false)
  inside b =
      let width = pass (bad_window (length years) (length years)) _ _ (handed_accepted plots years (length years) b) in
      let none = pass (eqb (length plots) 0) _ _ width.on in
      let many = pass (ltb 16 (length plots)) _ _ none.on in
      let soils = pass (soils_outside plots) _ _ many.on in
      let large = pass (ltb 300000 (area_of plots)) _ _ soils.on in
      (soils.not, (pass (rains_outside years) _ _ large.on).not)

  reads_whole : Bookable plots years
      → reading (rain_book plots (map tenths years)) ≡ ended (alone plots (map year_of years)) (book_size (length plots) (length years))
  unfolding area_of
  reads_whole b =
      let s : List ℕ = unit_bytes 0 0 0 ++ rest in
      let none : Description = record { units = []; aquifers = [] } in
      let enough : length s + 1 ≡ suc (31 + length rest) = omega arith in
      ap (λ (n : ℕ). reading_from n s 0 none) enough
      ∙ reads_clear (31 + length rest) s 0 none (unit_entry (outlet [] [])) 31 (unit_stands rest) refl
      ∙ soils_read (31 + length rest) s 31 [] plots years (omega (arith, enough)) refl (omega (arith, b.plots_from)) (omega (arith, b.plots_to)) (inside b).0
      (omega (arith, b.area)) b.width_to (inside b).1

  pub lone_reading : Bookable plots years
      → reading (rain_book plots (map tenths years)) ≡ read (alone plots (map year_of years)) (book_size (length plots) (length years))
  lone_reading b =
      reads_whole b
      ∙ all_kept plots (map year_of years) (book_size (length plots) (length years)) b.plots_from (omega (arith, b.width_from, length-map years year_of))

  pub one_unit_book : OneUnitBook plots years
  one_unit_book b =
      ap opened_as (lone_reading b) ∙ lone_opened plots (map year_of years) (book_size (length plots) (length years))
