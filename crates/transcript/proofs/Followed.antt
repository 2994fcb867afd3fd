-- Every journal whose opening is accepted is followed to its end: journals and the conservation of water joined. Assumes nothing.
use Rattle.std.specs.Prelude.{Ok}
use Prim.Native.Nat.{ℕ, zero, suc, ◌+◌, ◌≤◌}
use mathlib.Core.Path.{◌≡◌, refl, sym, ap, subst⁻¹, ◌∙◌}
use mathlib.Core.Bool.{true}
use mathlib.Core.List.{List, ◌++◌, append_assoc}
use lib.ListN.{length}
use borrow.Author.Tests.{le-ltb}
use Rattle.model.specs.declared.Balance.{Balance}
use Rattle.model.specs.Answers.{Answer}
use Rattle.model.specs.View.{view_of}
use Rattle.book.specs.Reading.{Description, read, reading, opened, balance_of}
use Rattle.book.proofs.Promises.{accepted_exactly}
use Rattle.conservation.specs.Replies.{Said}
use Rattle.planning.specs.declared.State.{State}
use Rattle.planning.specs.State.{sound_state}
use Rattle.planning.specs.Calls.{opened_state}
use Rattle.requests.specs.Requests.{Request, ask, keep, back, watch, state_after, states_after, Asking, ends, fails, asks, request_at, requests_from}
use Rattle.history.specs.Claim.{told, all_told, described, Conserved}
use Rattle.history.proofs.Promise.{state_follows, replies_follow, demand_3_kept, state_sound}
use Rattle.listing.specs.Listing.{table_text}
use Rattle.replies.specs.Reply.{request_line, reply_text}
use Rattle.replay.specs.Page.{Page, page_of}
use Rattle.replay.specs.Journal.{book_of, journal_opened, journal_limit, replies_text, opened_text, journal_text}
use Rattle.replay.proofs.Replaying.{page_ends, page_fails, page_asks, page_none}
use Rattle.transcript.specs.Followed.{requests_in, asked_in, replies_in, told_lines, failure_from, failure_in, Followed}
use Rattle.transcript.proofs.Pages.{page_state}

-- The text of a reply is the line by what the program tells.
line_told : (k : ℕ) (st : State) (r : Request) → reply_text k st r ≡ request_line k r (told st r).answer (told st r).number
line_told k st (ask c) = refl
line_told k st (keep n) = refl
line_told k st (back n) = refl
line_told k st (watch w) = refl

-- The lines of the requests of at most m records, and the line of a record that failed.
abbrev lines_from : ℕ → ℕ → State → List ℕ → ℕ → List ℕ
lines_from m k st s at = told_lines k (requests_from m s at) (all_told st (requests_from m s at)) ++ failure_from m s at

-- The text of one record more, by what is asked.
module _ (m k : ℕ) (st : State) (s : List ℕ) (at : ℕ)
    (rest : (k : ℕ) (st : State) (to : ℕ) → (page_of m k st s to).text ≡ lines_from m k st s to) where
  text_one : (x : Asking) → request_at s at ≡ x → (page_of (suc m) k st s at).text ≡ lines_from (suc m) k st s at
  unfolding requests_from failure_from all_told told_lines
  text_one ends e = ap (λ (p : Page). p.text) (page_ends m k st s at e) ∙ rw (e, requests_from, failure_from) refl
  text_one (fails n) e = ap (λ (p : Page). p.text) (page_fails m k st s at n e) ∙ rw (e, requests_from, failure_from) refl
  text_one (asks r to) e =
      let after = state_after st r in
      let lines = told_lines (suc k) (requests_from m s to) (all_told after (requests_from m s to)) in
      ap (λ (p : Page). p.text) (page_asks m k st s at r to e)
      ∙ rw (e, requests_from, failure_from)
      ((λ i. line_told k st r i ++ rest (suc k) after to i) ∙ sym (append_assoc (request_line k r (told st r).answer (told st r).number) lines (failure_from m s to)))

-- The text of a page is the lines of its requests by what the program tells, and then the line of a record that failed.
pub page_text : (m k : ℕ) (st : State) (s : List ℕ) (at : ℕ) → (page_of m k st s at).text ≡ lines_from m k st s at
unfolding requests_from failure_from all_told told_lines
page_text zero k st s at = ap (λ (p : Page). p.text) (page_none k st s at)
page_text (suc m) k st s at = text_one m k st s at (λ k st to. page_text m k st s to) (request_at s at) refl

module _ (s : List ℕ) (h : length s ≤ journal_limit) (e : (journal_opened s).answer ≡ Ok tt) where
  -- What is printed is the replies and the table of the balance after them.
  pub printed_after : journal_text s ≡ replies_text (replies_in s)
  printed_after =
      rw (le-ltb journal_limit (length s) h)
      (ap (λ (x : Answer). opened_text s x (journal_opened s).place (journal_opened s).state) e)

  module _ (d : Description) (at : ℕ) (r : reading (book_of s) ≡ read d at) where
    opening : (opened (book_of s)).balance ≡ balance_of d
    opening = (accepted_exactly (book_of s)).balance d at r

    -- The state after all records is the state after the requests, each on the state that the one before returned.
    state_reached : (replies_in s).state ≡ states_after (opened_state (book_of s)).state (requests_in s)
    state_reached =
        page_state (length s + 1) 1 (journal_opened s).state s (journal_opened s).place

    state_described : (replies_in s).state ≡ described (balance_of d) (asked_in s)
    state_described =
        state_reached ∙ state_follows (book_of s) d at r (requests_in s) ∙ ap (λ (b : Balance). described b (asked_in s)) opening

    followed : Followed s
    followed =
        record {
          description = d;
          place = at;
          reads = r;
          begins = (accepted_exactly (book_of s)).place d at r;
          state = state_described;
          sound = subst⁻¹ (λ (x : State). sound_state x ≡ true) state_reached (state_sound (book_of s) d at r (requests_in s));
          conserved = subst⁻¹ (Conserved d (asked_in s)) state_reached (demand_3_kept (book_of s) d at r (requests_in s));
          replies =
              page_text (length s + 1) 1 (journal_opened s).state s (journal_opened s).place
              ∙ ap (λ (l : List Said). told_lines 1 (requests_in s) l ++ failure_in s) (replies_follow (book_of s) d at r (requests_in s));
          printed = printed_after ∙ ap (λ (x : State). (replies_in s).text ++ table_text (view_of x.balance)) state_described;
        }

-- What holds of every journal that is not too long and whose opening is accepted.
pub journal_followed : (s : List ℕ) → length s ≤ journal_limit → (journal_opened s).answer ≡ Ok tt → Followed s
journal_followed s h e = let r = (accepted_exactly (book_of s)).accepted.0 e in followed s h e r.0 r.1 r.2
