-- Moving windows worked out: the bytes of their records, what they ask, and the lines that are printed. Assumes nothing.
use Rattle.std.specs.Prelude.{ℕ, ◌≡◌, refl, List, [], ◌∷◌, ◌/◌, ◌%◌}
use Rattle.laws.specs.Table.{table, tabulate}
use Rattle.runoff.specs.Soil.{coefficient, coefficients}
use Rattle.runoff.specs.Year.{rain_year}
use Rattle.runoff.specs.Mean.{rounded}
use Rattle.runoff.specs.Record.{area_of, weighted_of, years_sum}
use Rattle.record.specs.Calls.{call_at}
use Rattle.planning.specs.declared.State.{State}
use Rattle.requests.specs.Watched.{watched_at}
use Rattle.requests.specs.Records.{record_at}
use Rattle.requests.specs.Requests.{watch, asks, request_at}
use Rattle.text.specs.Text.{ascii, decimal_below, decimal}
use Rattle.report.specs.Lines.{call_refused, call_windows, window_line}
use Rattle.listing.specs.Listing.{lines_of}
use Rattle.replies.specs.Reply.{reply_text}

-- Numbers of 16 bits each.
abbrev halves : List ℕ → List ℕ
halves [] = []
halves (n ∷ ns) = n % 256 ∷ n / 256 ∷ halves ns

-- Appendix D's 22 years on two soil records of 110,650 hectares each: WI, the width, 2 soil records, 22 years, the soil records and the
-- years.
unfoldable pub drift_of : ℕ → List ℕ
drift_of width =
    87 ∷ 73 ∷ width ∷ 2 ∷ 22 ∷ 0 ∷ 2 ∷ 1 ∷ 58 ∷ 176 ∷ 1 ∷ 0 ∷ 1 ∷ 1 ∷ 58 ∷ 176 ∷ 1 ∷ 0
    ∷ halves
    (9865 ∷ 7278 ∷ 11633 ∷ 8410 ∷ 7917 ∷ 6240 ∷ 4850 ∷ 8638 ∷ 11162 ∷ 6622 ∷ 11867 ∷ 6921 ∷ 7374 ∷ 10620 ∷ 6624 ∷ 9107 ∷ 6415 ∷ 9633 ∷ 9288
    ∷ 3929 ∷ 8909 ∷ 8377 ∷ [])

-- The record has 62 bytes.
pub asks_windows : request_at (drift_of 20) 0 ≡ asks (watch (watched_at (drift_of 20) 0)) 62
unfolding drift_of record_at call_at tabulate
asks_windows = refl

-- A window of 20 years has three places, from 1 on.
pub says_windows : (st : State)
    → reply_text 1 st (watch (watched_at (drift_of 20) 0)) ≡ ascii "call 1 windows 3\nwindow 1 263993\nwindow 2 261136\nwindow 3 263946\n"
unfolding drift_of table tabulate years_sum area_of weighted_of rain_year coefficient coefficients rounded lines_of call_windows window_line decimal decimal_below
says_windows st = refl

-- A window of 23 years is longer than the record.
pub says_refused : (st : State) → reply_text 7 st (watch (watched_at (drift_of 23) 0)) ≡ ascii "call 7 refused 24\n"
unfolding drift_of table tabulate years_sum area_of weighted_of lines_of call_refused decimal decimal_below
says_refused st = refl
