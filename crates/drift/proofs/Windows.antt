-- Each value of a moving window is what a book of its years gives. Assumes nothing.
use Rattle.std.proofs.lemmas.List.Elements.{All-take, All-drop}
use Prim.Native.Nat.{ℕ, ◌≤◌}
use mathlib.Core.Path.{◌≡◌, refl, sym, ap, ◌∙◌}
use mathlib.Core.List.{List, map}
use lib.ListN.{length, get_or, drop}
use native.Mathlib.Omega.{arith}
use Rattle.laws.proofs.Arrays.{get_or_table}
use Rattle.model.specs.Fresh.{empty_unit}
use Rattle.model.specs.View.{view_of}
use Rattle.model.specs.declared.Unit.{Unit as BasinUnit}
use Rattle.model.specs.declared.Balance.{Balance}
use Rattle.runoff.specs.declared.Plot.{Plot}
use Rattle.runoff.specs.Record.{runoff_of}
use Rattle.basin.proofs.Soundness.{soundness}
use Rattle.record.specs.Described.{no_unit, unit_of}
use Rattle.book.specs.Reading.{Description, balance_of, opened}
use Rattle.book.proofs.Promises.{opening_sound, accepted_exactly as opens_exactly}
use Rattle.cases.specs.OneUnit.{opens_one}
use Rattle.window.specs.Window.{year_of}
use Rattle.window.specs.Handed.{RainInside, Handed}
use Rattle.window.proofs.Sums.{length_window}
use Rattle.window.proofs.Promises.{accepted_exactly, each_window}
use Rattle.drift.specs.Windows.{Bookable, book_size, HasWindow, value, years_in, WindowAsABook, HoldsWindow, opened_runoff, WindowInEveryBook}
use Rattle.drift.proofs.Books.{one_unit_book, lone_reading}
use Rattle.drift.proofs.Growing.{alone}
use Rattle.cases.specs.Printed.{tenths}
use Rattle.cases.specs.OneUnit.{rain_book}

module _ (plots : List Plot) (years : List ℕ) (width i : ℕ) (h : HasWindow plots years width i) where
  handed : Handed plots years width
  handed = (accepted_exactly plots years width).0 h.accepted

  -- The value is the mean of the window's years on these soils.
  value_is : value plots years width i ≡ runoff_of plots (map year_of (years_in years width i))
  value_is =
      let w = each_window plots years width h.accepted in
      w.each i (omega (arith, w.count, handed.years_from, h.there))

  -- The window has its years, and a book may hold them.
  wide_lem : length (years_in years width i) ≡ width
  wide_lem = length_window years width i (omega (arith, handed.years_from, h.there))

  bookable : Bookable plots (years_in years width i)
  bookable =
      record {
        width_from = omega (arith, handed.width_from, wide_lem);
        width_to = omega (arith, handed.width_to, wide_lem);
        years_from = omega arith;
        years_to = omega (arith, handed.width_to, wide_lem);
        plots_from = handed.plots_from;
        plots_to = handed.plots_to;
        soils = handed.soils;
        area = handed.area;
        rains = All-take RainInside width (drop i years) (All-drop RainInside i years handed.rains);
      }

pub window_as_a_book : (plots : List Plot) (years : List ℕ) (width i : ℕ) → WindowAsABook plots years width i
window_as_a_book plots years width i h =
    let w = years_in years width i in
    let wide = wide_lem plots years width i h in
    one_unit_book plots w (bookable plots years width i h)
    ∙ (λ j. opens_one (book_size (length plots) (wide j)) (sym (value_is plots years width i h) j))

-- The natural runoff of a unit of the balance that an accepted book opens is that of its records.
opened_unit : (s : List ℕ) (d : Description) (k : ℕ) (plots : List Plot) (years : List ℕ) → HoldsWindow s d k plots years
    → opened_runoff s k ≡ runoff_of plots (map year_of years)
opened_unit s d k plots years h =
    ap (λ (b : Balance). (get_or b.units k empty_unit).runoff) same
    ∙ ap (λ (u : BasinUnit). u.runoff) (get_or_table 64 empty_unit (length d.units) (λ j. unit_of (get_or d.units j no_unit)) k h.there (omega (arith, few, h.there)))
    ∙ (λ i. runoff_of (h.same_plots i) (h.same_years i))
  where
    same : (opened s).balance ≡ balance_of d
    same = (opens_exactly s).balance d h.size h.accepted

    few : length d.units ≤ 64
    few = omega (arith, (soundness (view_of (opened s).balance) (opening_sound s)).few_units, ap (λ (b : Balance). b.unit_count) same)

pub window_in_every_book : (plots : List Plot) (years : List ℕ) (width i : ℕ) → WindowInEveryBook plots years width i
window_in_every_book plots years width i h s d k b = opened_unit s d k plots (years_in years width i) b ∙ sym (value_is plots years width i h)

-- The book of one unit is one of those books.
pub book_holds : (plots : List Plot) (years : List ℕ) (width i : ℕ) → HasWindow plots years width i
    → HoldsWindow (rain_book plots (map tenths (years_in years width i))) (alone plots (map year_of (years_in years width i))) 0 plots (years_in years width i)
book_holds plots years width i h =
    record {
      size = book_size (length plots) (length (years_in years width i));
      accepted = lone_reading plots (years_in years width i) (bookable plots years width i h);
      there = omega arith;
      same_plots = refl;
      same_years = refl;
    }
