-- The parts of a line, each after a space. Assumes nothing.
use Rattle.std.proofs.Common.{◌≡◌, ℕ, ◌+◌, ◌<◌, List, [], ◌∷◌, ◌++◌, length, map, take, get_or, refl, ap, ◌∙◌, append_assoc, arith}
use Rattle.std.specs.List.{flat_map, sum_by}
use Rattle.std.proofs.lemmas.List.{flat_map_more, take_more}
use Rattle.std.proofs.lemmas.List.Sums.{sum_by_more}
use Rattle.text.specs.Text.{ascii}
use Rattle.text.specs.Page.{Puts}
use Rattle.text.specs.declared.Page.{Page}
use Rattle.text.proofs.Pages.{restate, then, widen}
use Rattle.report.specs.declared.Part.{Part}
use Rattle.report.specs.Lines.{rest}
use Rattle.report.specs.Parts.{part_text, part_room}

-- A part after a space.
abbrev pub spaced : Part → List ℕ
spaced part = ascii " " ++ part_text part

-- One part more.
pub one_more : (first : List ℕ) (parts : List Part) (i : ℕ) (part : Part) {old mid new : Page} → i < length parts
    → Puts (length first + sum_by part_room (take i parts)) old (first ++ flat_map spaced (take i parts)) mid
    → Puts (part_room (get_or parts i part)) mid (spaced (get_or parts i part)) new
    → Puts (length first + sum_by part_room (take (i + 1) parts)) old (first ++ flat_map spaced (take (i + 1) parts)) new
one_more first parts i part h before next =
    rw (sum_by_more part_room parts i part h, take_more parts i part h)
    (widen (restate (then before next) (flat_map_more spaced first (take i parts) _)) (omega arith))

-- All parts and the line feed are the rest of the line.
pub all_rest : (parts : List Part) → flat_map spaced parts ++ ascii "\n" ≡ rest (map part_text parts)
all_rest [] = refl
all_rest (part ∷ parts) = append_assoc (spaced part) (flat_map spaced parts) (ascii "\n") ∙ ap (λ (l : List ℕ). spaced part ++ l) (all_rest parts)
