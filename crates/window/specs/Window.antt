-- The natural runoff of each window of a record of rain years, and the reply. Assumes nothing.
use Rattle.std.specs.Prelude.{ℕ, ◌+◌, ◌-◌, List, map, take, drop, replicate, length, Ok, Err}
use Rattle.laws.specs.Table.{table}
use Rattle.model.specs.Answers.{Answer}
use Rattle.runoff.specs.declared.Measure.TheVariants.{Tenths}
use Rattle.runoff.specs.declared.Plot.{Plot}
use Rattle.runoff.specs.Record.{Year, of_rain, runoff_of}
use Rattle.window.specs.declared.Windows.{Windows}
use Rattle.window.specs.Refused.{windows_refusal}

-- A year's rain in tenths, as a PD of a book gives it.
abbrev pub year_of : ℕ → Year
year_of tenths = of_rain (record { measure = Tenths; depth = tenths })

-- The window of so many years whose first year has an index in the record, the oldest year having 0.
abbrev pub window : ℕ → List ℕ → ℕ → List ℕ
window width years i = take width (drop i years)

-- Its natural runoff is the one that a unit of a book has with these soil records and just the window's years.
abbrev pub window_runoff : List Plot → List ℕ → ℕ → ℕ → ℕ
window_runoff plots years width i = runoff_of plots (map year_of (window width years i))

-- How many windows a record has: one for each year that a window can begin with.
abbrev pub window_count : List ℕ → ℕ → ℕ
window_count years width = length years + 1 - width

-- A reply has 181 places, as many as a record of 200 years has windows of 20.
abbrev pub window_limit : ℕ
window_limit = 181

-- Accepted: the natural runoff of each window, the first from the oldest years, and 0 in the unused places. Refused: 0 in all places. The
-- number is 0, since no title is concerned.
abbrev pub replied : Answer → List Plot → List ℕ → ℕ → Windows
replied (Ok u) plots years width =
    record {
      answer = Ok tt;
      number = 0;
      count = window_count years width;
      runoffs = table window_limit 0 (window_count years width) (window_runoff plots years width);
    }
replied (Err r) plots years width = record { answer = Err r; number = 0; count = 0; runoffs = replicate window_limit 0 }

-- The reply of the moving window.
abbrev pub windows_reply : List Plot → List ℕ → ℕ → Windows
windows_reply plots years width = replied (windows_refusal plots years width) plots years width
