-- The record WI of a journal: what it hands in for the moving window. Assumes nothing.
use Rattle.std.specs.Prelude.{ℕ, ◌+◌, ◌*◌, List}
use Rattle.laws.specs.Table.{tabulate}
use Rattle.runoff.specs.declared.Plot.{Plot}
use Rattle.record.specs.Bytes.{bits8, bits16}
use Rattle.record.specs.Described.{plot_at}
use Rattle.window.specs.declared.Windows.{Windows}
use Rattle.window.specs.Window.{windows_reply}

-- Soil records, rain years in tenths, the oldest first, and a window's width in years.
pub record Watched : Type 0 where
  pub plots : List Plot
  pub years : List ℕ
  pub width : ℕ

-- After the mark stand the width (8 bits), the number of soil records (8) and the number of years (16).
abbrev pub plots_told : List ℕ → ℕ → ℕ
plots_told s at = bits8 s (at + 3)

abbrev pub years_told : List ℕ → ℕ → ℕ
years_told s at = bits16 s (at + 4)

-- Then come the soil records, six bytes each, with their fields as an SU has them after its mark, and the years, 16 bits each.
abbrev pub plots_after : List ℕ → ℕ → ℕ → List Plot
plots_after s at n = tabulate n (λ k. plot_at s (at + 4 + 6 * k))

abbrev pub years_from : List ℕ → ℕ → ℕ → List ℕ
years_from s i n = tabulate n (λ k. bits16 s (i + 2 * k))

-- The offset of the years, and how many bytes the record has.
abbrev pub years_place : List ℕ → ℕ → ℕ
years_place s at = at + 6 + 6 * plots_told s at

abbrev pub window_size : List ℕ → ℕ → ℕ
window_size s at = 6 + 6 * plots_told s at + 2 * years_told s at

-- What the WI at an offset hands in.
abbrev pub watched_at : List ℕ → ℕ → Watched
watched_at s at =
    record {
      plots = plots_after s at (plots_told s at);
      years = years_from s (years_place s at) (years_told s at);
      width = bits8 s (at + 2);
    }

-- The reply to it.
abbrev pub watched_reply : Watched → Windows
watched_reply w = windows_reply w.plots w.years w.width
