-- The text of each printed line, as the list of its bytes. Assumes nothing.
use Rattle.std.specs.Prelude.{ℕ, List, [], ◌∷◌, ◌++◌, ℤ}
use Rattle.text.specs.Text.{ascii, decimal, signed}

-- The rest of a line after its first word: a space and a word for each, and the line feed.
abbrev pub rest : List (List ℕ) → List ℕ
rest [] = ascii "\n"
rest (w ∷ ws) = ascii " " ++ w ++ rest ws

-- A line: the words with one space between two, and the line feed.
abbrev pub line : List ℕ → List (List ℕ) → List ℕ
line w ws = w ++ rest ws

-- `unit N F C R A`: the unit's number, flow, committed volume, own reserve and availability.
unfoldable pub unit_line : ℕ → ℤ → ℕ → ℕ → ℤ → List ℕ
unit_line number flow committed reserve availability =
    line (ascii "unit")
    (decimal number ∷ signed flow ∷ decimal committed ∷ decimal reserve ∷ signed availability ∷ [])

-- `aquifer N R A`: the aquifer's number, recharge and availability.
unfoldable pub aquifer_line : ℕ → ℤ → ℤ → List ℕ
aquifer_line number recharge availability =
    line (ascii "aquifer") (decimal number ∷ signed recharge ∷ signed availability ∷ [])

-- `refused N at P`: the refusal's number and its place.
unfoldable pub refused_line : ℕ → ℕ → List ℕ
refused_line number place = line (ascii "refused") (decimal number ∷ ascii "at" ∷ decimal place ∷ [])

-- `call K W N`: the call's place among the calls, the word for its outcome, and a number.
abbrev pub call_line : ℕ → List ℕ → ℕ → List ℕ
call_line k outcome n = line (ascii "call") (decimal k ∷ outcome ∷ decimal n ∷ [])

-- `call K given N`: the call's place among the calls and the number of the title.
unfoldable pub call_given : ℕ → ℕ → List ℕ
call_given k n = call_line k (ascii "given") n

-- `call K refused N`: the call's place among the calls and the refusal's number.
unfoldable pub call_refused : ℕ → ℕ → List ℕ
call_refused k n = call_line k (ascii "refused") n

-- `call K cancelled N`: the call's place among the calls and the number of the title cancelled.
unfoldable pub call_cancelled : ℕ → ℕ → List ℕ
call_cancelled k n = call_line k (ascii "cancelled") n

-- `call K kept`: the call's place among the calls.
unfoldable pub call_kept : ℕ → List ℕ
call_kept k = line (ascii "call") (decimal k ∷ ascii "kept" ∷ [])

-- `call K back`: the call's place among the calls.
unfoldable pub call_back : ℕ → List ℕ
call_back k = line (ascii "call") (decimal k ∷ ascii "back" ∷ [])

-- `call K windows C`: the call's place among the calls and the number of windows.
unfoldable pub call_windows : ℕ → ℕ → List ℕ
call_windows k n = call_line k (ascii "windows") n

-- `window I R`: the window's place, the oldest first, and its natural runoff.
unfoldable pub window_line : ℕ → ℕ → List ℕ
window_line number runoff = line (ascii "window") (decimal number ∷ decimal runoff ∷ [])
