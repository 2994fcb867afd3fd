-- What an accepted opening prints where a request stands at its place: the line of that request at place 1, what the records after it print, from
-- place 2 on, and then the table of the state after them all. Assumes nothing.
use Rattle.std.specs.Prelude.{Ok}
use Prim.Native.Nat.{ℕ, suc, ◌+◌}
use mathlib.Core.Path.{◌≡◌, ap, ◌∙◌}
use mathlib.Core.List.{List, ◌++◌}
use lib.ListN.{length}
use native.Mathlib.Omega.{arith}
use Rattle.model.specs.View.{view_of}
use Rattle.planning.specs.declared.State.{State}
use Rattle.requests.specs.Requests.{Request, state_after, asks, request_at}
use Rattle.listing.specs.Listing.{table_text}
use Rattle.replies.specs.Reply.{reply_text}
use Rattle.replay.specs.Page.{Page, page_of}
use Rattle.replay.specs.Journal.{replies_text, opened_text}
use Rattle.replay.proofs.Replaying.{page_asks}

-- What the records after the first print, and the table.
abbrev others : List ℕ → State → ℕ → Page
others s st to = page_of (length s) 2 st s to

pub first_printed : (s : List ℕ) (place : ℕ) (st : State) (r : Request) (to : ℕ) → request_at s place ≡ asks r to
    → opened_text s (Ok tt) place st
    ≡ reply_text 1 st r ++ (others s (state_after st r) to).text ++ table_text (view_of (others s (state_after st r) to).state.balance)
first_printed s place st r to e =
    let more : length s + 1 ≡ suc (length s) = omega arith in
    ap (λ (n : ℕ). replies_text (page_of n 1 st s place)) more
    ∙ ap replies_text (page_asks (length s) 1 st s place r to e)
