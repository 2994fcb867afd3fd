-- The text of what stands in a line, and the most bytes that it takes. Assumes nothing.
use Rattle.std.specs.Prelude.{ℕ, ◌+◌, List, length, sum_by}
use Rattle.text.specs.Text.{decimal, signed}
use Rattle.report.specs.declared.Part.{Part}
use Rattle.report.specs.declared.Part.TheVariants.{Word, Number, Signed}

-- The text of a part.
abbrev pub part_text : Part → List ℕ
part_text (Word word) = word.now
part_text (Number number) = decimal number
part_text (Signed number) = signed number

-- The most bytes that a part takes: a space, and the word's bytes, 20 digits, or a sign and 20 digits.
abbrev pub part_room : Part → ℕ
part_room (Word word) = 1 + length word.now
part_room (Number number) = 21
part_room (Signed number) = 22

-- The most bytes that a line takes: its first word, its parts, and the line feed.
abbrev pub line_room : List ℕ → List Part → ℕ
line_room first parts = length first + (sum_by part_room parts + 1)
