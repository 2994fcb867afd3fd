-- A moving window gives what books of its years give. Assumes nothing.
use Rattle.std.specs.Prelude.{ℕ, ◌+◌, ◌*◌, ◌<◌, ◌≡◌, List, map, take, drop, length, get_or, Ok}
use Rattle.model.specs.Fresh.{empty_unit}
use Rattle.runoff.specs.declared.Plot.{Plot}
use Rattle.runoff.specs.Record.{runoff_of}
use Rattle.record.specs.Described.{no_unit}
use Rattle.book.specs.Reading.{Description, read, reading, opened}
use Rattle.cases.specs.Printed.{tenths}
use Rattle.cases.specs.OneUnit.{rain_book, opens_one}
use Rattle.window.specs.Window.{year_of, window_count, windows_reply}
use Rattle.window.specs.Handed.{Handed}

-- The book of one unit with 0 in all its entries, these soil records and these years' rain, each a PD, is accepted; it has so many bytes,
-- and the unit's natural runoff is this.
abbrev pub BookGives : List Plot → List ℕ → ℕ → ℕ → Type 0
BookGives plots years size runoff = opened (rain_book plots (map tenths years)) ≡ opens_one size runoff

-- A UN has 31 bytes, an SU 8 and a PD 4.
abbrev pub book_size : ℕ → ℕ → ℕ
book_size plots years = 31 + 8 * plots + 4 * years

-- What such a book may hold: 1 to 16 soil records of at most 300,000 hectares in all, and 20 to 50 years, each inside its values. The same
-- may be handed in for one window of all these years.
abbrev pub Bookable : List Plot → List ℕ → Type 0
Bookable plots years = Handed plots years (length years)

-- The book gives the mean of its years, as any unit's natural runoff is.
abbrev pub OneUnitBook : List Plot → List ℕ → Type 0
OneUnitBook plots years =
    Bookable plots years → BookGives plots years (book_size (length plots) (length years)) (runoff_of plots (map year_of years))

-- The call is accepted, and it has a window with this index, the oldest having 0.
pub record HasWindow (plots : List Plot) (years : List ℕ) (width i : ℕ) : Type 0 where
  pub accepted : (windows_reply plots years width).answer ≡ Ok tt
  pub there : i < window_count years width

-- The value that the reply gives for a window.
abbrev pub value : List Plot → List ℕ → ℕ → ℕ → ℕ
value plots years width i = get_or (windows_reply plots years width).runoffs i 0

-- The years that a book of this window holds: as many as the window is wide, from the one with this index on, the oldest having 0.
abbrev pub years_in : List ℕ → ℕ → ℕ → List ℕ
years_in years width i = take width (drop i years)

-- Each value is the natural runoff that a book holding just the window's years gives.
abbrev pub WindowAsABook : List Plot → List ℕ → ℕ → ℕ → Type 0
WindowAsABook plots years width i =
    HasWindow plots years width i → BookGives plots (years_in years width i) (book_size (length plots) width) (value plots years width i)

-- In an accepted book, of any units, aquifers and entries, a unit has just these soil records and the window's years.
pub record HoldsWindow (s : List ℕ) (d : Description) (k : ℕ) (plots : List Plot) (years : List ℕ) : Type 0 where
  pub size : ℕ
  pub accepted : reading s ≡ read d size
  pub there : k < length d.units
  pub same_plots : (get_or d.units k no_unit).plots ≡ plots
  pub same_years : (get_or d.units k no_unit).years ≡ map year_of years

-- The natural runoff of a unit of the balance that a book opens.
abbrev pub opened_runoff : List ℕ → ℕ → ℕ
opened_runoff s k = (get_or (opened s).balance.units k empty_unit).runoff

-- Each value is the natural runoff of every unit of every book that has just the window's years on these soils.
abbrev pub WindowInEveryBook : List Plot → List ℕ → ℕ → ℕ → Type 0
WindowInEveryBook plots years width i =
    HasWindow plots years width i → (s : List ℕ) (d : Description) (k : ℕ) → HoldsWindow s d k plots (years_in years width i)
    → opened_runoff s k ≡ value plots years width i
