-- What a program writes that begins a journal, writes page after page and then the table, is the whole text of the journal. Assumes nothing.
use Rattle.std.specs.Prelude.{Ok, Err}
use Prim.Native.Nat.{ℕ, ◌+◌}
use mathlib.Core.Path.{◌≡◌, refl, sym, ap, ◌∙◌}
use mathlib.Core.List.{List, [], ◌++◌, append-nil}
use lib.ListN.{length}
use borrow.Author.Tests.{lt-ltb, le-ltb}
use Rattle.laws.proofs.Cases.{by_bool, by_lt}
use Rattle.model.specs.declared.Refusal.{Refusal}
use Rattle.model.specs.declared.Refusal.TheVariants.{TooLong}
use Rattle.model.specs.Answers.{Answer, number}
use Rattle.model.specs.declared.Balance.{Balance}
use Rattle.model.specs.Fresh.{fresh_balance}
use Rattle.model.specs.View.{view_of}
use Rattle.basin.specs.Sound.{sound}
use Rattle.book.proofs.Promises.{accepted_exactly}
use Rattle.planning.specs.declared.State.{State}
use Rattle.planning.specs.State.{nothing_kept}
use Rattle.report.specs.Lines.{refused_line}
use Rattle.listing.specs.Listing.{lines_of, table_text}
use Rattle.replay.specs.Page.{Page, onward, page_of}
use Rattle.replay.specs.Journal.{book_of, journal_opened, journal_limit, begun_by, begun, replies_text, opened_text, journal_text}

-- The fresh balance has no table.
fresh_table : table_text (view_of fresh_balance) ≡ []
unfolding lines_of
fresh_table = by_bool (sound (view_of fresh_balance)) (λ e. rw e refl) (λ e. rw e refl)

-- How a journal goes on from its beginning.
abbrev pub whole : List ℕ → Page → Page
whole s p = onward p (page_of (length s + 1) 1 p.state s p.next)

-- What is printed by an answer is what its beginning, the pages and the table give.
whole_by : (s : List ℕ) (a : Answer) (place : ℕ) (st : State) → ((n : Refusal) → a ≡ Err n → st.balance ≡ fresh_balance)
    → opened_text s a place st ≡ replies_text (whole s (begun_by a place st))
whole_by s (Ok u) place st f = refl
whole_by s (Err n) place st f =
    sym (append-nil (refused_line (number n) place))
    ∙ ap (λ (l : List ℕ). refused_line (number n) place ++ l) (sym (ap (λ (b : Balance). table_text (view_of b)) (f n refl) ∙ fresh_table))

pub whole_text : (s : List ℕ) → journal_text s ≡ replies_text (whole s (begun s))
whole_text s =
    by_lt journal_limit (length s)
    (λ h. rw (lt-ltb journal_limit (length s) h) (whole_by s (Err TooLong) journal_limit (nothing_kept fresh_balance) (λ n e. refl)))
    (λ h.
    rw (le-ltb journal_limit (length s) h)
    (whole_by s (journal_opened s).answer (journal_opened s).place (journal_opened s).state (accepted_exactly (book_of s)).fresh))
