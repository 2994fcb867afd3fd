-- Laws of texts put on a page: one after another, wider bounds, and what the lent buffer then holds. Assumes nothing.
use Rattle.std.proofs.Common.{◌≡◌, ℕ, ◌+◌, ◌≤◌, List, [], ◌++◌, MutBor, refl, ◌∙◌, arith}
use Rattle.text.specs.Text.{Written}
use Rattle.text.specs.Page.{Fits, IsEmptyOver, Puts}
use Rattle.text.specs.declared.Page.{Page}
use Rattle.text.proofs.Writing as writing

-- no text at all
pub still : (page : Page) → Fits 0 page → Puts 0 page [] page
still page h = record { same = refl; size = refl; put = writing.nothing page.out.now page.len (omega arith) }

module _ {m : ℕ} {old mid : Page} {s : List ℕ} (first : Puts m old s mid) where
  -- a wider bound on the text's length
  pub widen : {k : ℕ} → m ≤ k → Puts k old s mid
  widen h = record { same = first.same; size = first.size; put = writing.widen first.put h }

  -- the same text, given in another way
  pub restate : {t : List ℕ} → s ≡ t → Puts m old t mid
  restate e = record { same = first.same; size = first.size; put = writing.restate first.put e }

  -- one text and then another are the two together
  pub then : {k : ℕ} {t : List ℕ} {new : Page} → Puts k mid t new → Puts (m + k) old (s ++ t) new
  then second = record { same = second.same ∙ first.same; size = second.size ∙ first.size; put = writing.then first.put second.put }

  -- what was put on an empty page is written from the start of the buffer on
  pub on_buffer : {buffer : MutBor (List ℕ)} → IsEmptyOver buffer old → Written m buffer.now 0 s mid.out.now mid.len
  on_buffer e = rw (← e.bytes, ← e.empty) first.put
