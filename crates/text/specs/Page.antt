-- What it means that a page is empty, that bytes fit on it, and that a text was put on it. Assumes nothing.
use Rattle.std.specs.Prelude.{ℕ, ◌+◌, ◌≤◌, ◌≡◌, List, length}
use Rattle.std.specs.Borrow.{MutBor}
use Rattle.text.specs.Text.{Written}
use Rattle.text.specs.declared.Page.{Page}

-- How many bytes are written on the page.
abbrev pub page_len : Page → ℕ
page_len page = page.len

-- The page is over the whole of a lent buffer, and nothing on it is written.
pub record IsEmptyOver (buffer : MutBor (List ℕ)) (page : Page) : Type 0 where
  pub same : page.out.ghost_name ≡ buffer.ghost_name
  pub bytes : page.out.now ≡ buffer.now
  pub empty : page.len ≡ 0

-- `most` bytes more fit on the page.
abbrev pub Fits : ℕ → Page → Type 0
Fits most page = page.len + most ≤ length page.out.now

-- `text`, of at most `most` bytes, was put behind what was written on the page. The buffer is the same one, and only the text's place in it changes.
pub record Puts (most : ℕ) (old : Page) (text : List ℕ) (new : Page) : Type 0 where
  pub same : new.out.ghost_name ≡ old.out.ghost_name
  pub size : length new.out.now ≡ length old.out.now
  pub put : Written most old.out.now old.len text new.out.now new.len
