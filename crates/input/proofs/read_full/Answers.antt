-- A read more puts what the reader loses behind what was read.
use Rattle.std.proofs.Common.{◌≡◌, ℕ, ◌+◌, ◌-◌, ◌≤◌, List, ◌++◌, rules, length, take, sym, ap, ◌∙◌, subst, length-take-le}
use Rattle.std.proofs.Math.Seq.{take-append-add}
use Rattle.std.proofs.lemmas.List.{take-append-le}
use Rattle.std.specs.Io.KnownBytes.{Consumes}
use Rattle.std.proofs.KnownBytes.{Consumes-trans}
use borrow.Rule.Slice.PartMut.{put_mid, post_of}
use Rattle.input.proofs.read_full.Goals as goal

-- The front of a list, and n elements of what was put behind it.
take_put : (a k n : ℕ) (xs ys : List ℕ) → a ≤ length xs → n ≤ length ys → take (a + n) (put_mid a k xs ys) ≡ take a xs ++ take n ys
take_put a k n xs ys within fits =
    let back = ys ++ post_of a k xs in
    ap (λ m. take (m + n) (take a xs ++ back)) (sym (length-take-le a xs within))
    ∙ take-append-add (take a xs) back n
    ∙ ap (λ l. take a xs ++ l) (take-append-le n ys (post_of a k xs) fits)

pub loop-n-preserved : goal.loop-n-preserved
loop-n-preserved g c =
    let n = c.loop-n.n in
    let read = c.in_ok-more.ensures in (
      search rules,
      subst (Consumes _ _)
          (sym (take_put n (length c.loop-n.bytes - n) c.in_ok-more.more c.loop-n.bytes c.read.new.buf c.loop-n.invariant.0 read.bound.0))
          (Consumes-trans _ _ _ _ _ c.loop-n.invariant.1 read.bytes.0),
    )
