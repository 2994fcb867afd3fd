-- The lines of the rows of a table, one after another on a page. Assumes nothing.
use Rattle.std.proofs.Common.{◌≡◌, ℕ, zero, suc, ◌+◌, ◌*◌, ◌≤◌, ◌<◌, List, ◌++◌, length, take, get_or, refl, ap, ◌∙◌, subst, arith, add-one, mul-suc}
use Rattle.std.proofs.lemmas.List.{get_or-take}
use mathlib.Core.Path.{ap₂}
use lib.Seq.{length-take-le}
use Rattle.laws.specs.Table.{table}
use Rattle.laws.proofs.Arrays.{get_or_table, length_tabulate}
use Rattle.text.specs.Page.{Puts}
use Rattle.text.specs.declared.Page.{Page}
use Rattle.text.proofs.Pages.{restate, then, widen}
use Rattle.listing.specs.Listing.{lines_of}

-- Lines that agree at each place are the same text.
pub lines_same : (n : ℕ) (f g : ℕ → List ℕ) → ((k : ℕ) → k < n → f k ≡ g k) → lines_of n f ≡ lines_of n g
unfolding lines_of
lines_same zero f g e = refl
lines_same (suc n) f g e = ap₂ ◌++◌ (lines_same n f g (λ k h. e k (omega arith))) (e n (omega arith))

module _ {Row : Type 0} (line : Row → ℕ → List ℕ) (none : Row) (rows : List Row) where
  -- The lines of the first n rows.
  abbrev pub lines_to : ℕ → List ℕ
  lines_to n = lines_of n (λ k. line (get_or rows k none) k)

  -- One line more, each of at most so many bytes.
  pub line_more : (room k : ℕ) (row : Row) {old mid new : Page} → row ≡ get_or rows k none
      → Puts (room * k) old (lines_to k) mid → Puts room mid (line row k) new → Puts (room * (k + 1)) old (lines_to (k + 1)) new
  unfolding lines_of
  line_more room k row read before w =
      rw (add-one k) (widen (then before (restate w (ap (λ (r : Row). line r k) read))) (omega (arith, mul-suc room k)))

-- The rows of a table that are in use put the lines of what it holds.
module _ {Row : Type 0} (line : Row → ℕ → List ℕ) (none : Row) (size n : ℕ) (f : ℕ → Row) (full : List Row) (few : n ≤ size) (e : full ≡ table size none n f) where
  full_length : length full ≡ size
  unfolding table
  full_length = rw e (length_tabulate size _)

  used_length : length (take n full) ≡ n
  used_length = length-take-le n full (omega (arith, full_length))

  used_lines : lines_to line none (take n full) n ≡ lines_of n (λ k. line (f k) k)
  used_lines =
      lines_same n _ _
      (λ k h. ap (λ (r : Row). line r k)
      (get_or-take n full k none h ∙ ap (λ (l : List Row). get_or l k none) e ∙ get_or_table size none n f k h (omega arith)))

  pub lines_put : {old new : Page} → Puts (128 * length (take n full)) old (lines_to line none (take n full) (length (take n full))) new
      → Puts (128 * n) old (lines_of n (λ k. line (f k) k)) new
  lines_put {old} {new} w =
      restate (subst (λ (m : ℕ). Puts (128 * m) old (lines_to line none (take n full) m) new) used_length w) used_lines
