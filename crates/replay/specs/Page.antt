-- The replies to the records of a journal, one record or one page of them at a time. Assumes nothing.
use Rattle.std.specs.Prelude.{ℕ, zero, suc, ◌+◌, ◌-◌, ◌≡◌, Bool, true, false, cond, List, [], ◌++◌, ltb, length}
use Rattle.model.specs.Answers.{number}
use Rattle.planning.specs.declared.State.{State}
use Rattle.requests.specs.Requests.{state_after, Asking, ends, fails, asks, request_at}
use Rattle.text.specs.Text.{Written}
use Rattle.report.specs.Lines.{refused_line}
use Rattle.replies.specs.Reply.{reply_text}
use Rattle.replay.specs.declared.Replayed.{Replayed}

-- What some records give: the text of their replies, the state after them, the offset of the next, how many there were, and whether there
-- may be more.
pub record Page : Type 0 where
  pub text : List ℕ
  pub state : State
  pub next : ℕ
  pub count : ℕ
  pub more : Bool

-- One record, at place k: nothing is left, a record fails with 1 or 2 and prints `refused N at P`, or a request is answered.
abbrev pub reply_to : Asking → ℕ → State → ℕ → Page
reply_to ends k st at = record { text = []; state = st; next = at; count = 0; more = false }
reply_to (fails r) k st at = record { text = refused_line (number r) at; state = st; next = at; count = 0; more = false }
reply_to (asks r to) k st at = record { text = reply_text k st r; state = state_after st r; next = to; count = 1; more = true }

abbrev pub record_reply : ℕ → State → List ℕ → ℕ → Page
record_reply k st s at = reply_to (request_at s at) k st at

-- Records and then others: the texts one after the other, and what the others leave. Nothing follows where there is no more.
abbrev pub joined : Page → Page → Page
joined p q = record { text = p.text ++ q.text; state = q.state; next = q.next; count = p.count + q.count; more = q.more }

abbrev pub onward : Page → Page → Page
onward p q = cond p.more (joined p q) p

-- No record yet: there may be more.
abbrev pub no_record : State → ℕ → Page
no_record st at = record { text = []; state = st; next = at; count = 0; more = true }

-- At most so many records from an offset on, the first at place k, each on the state that the one before left.
unfoldable pub page_of : ℕ → ℕ → State → List ℕ → ℕ → Page
page_of zero k st s at = no_record st at
page_of (suc most) k st s at =
    onward (record_reply k st s at) (page_of most (suc k) (record_reply k st s at).state s (record_reply k st s at).next)

-- The most bytes of a reply.
abbrev pub reply_limit : ℕ
reply_limit = 16384

-- The most bytes of the lent buffer that may be used before a record, so that the longest reply still fits.
abbrev pub page_room : ℕ
page_room = 1064960 - reply_limit

-- At most so many records as in `page_of`, where so many bytes of the buffer are used before the first: a page ends too when so little of the buffer
-- is left that the longest reply might not fit.
unfoldable pub page_within : ℕ → ℕ → ℕ → State → List ℕ → ℕ → Page
page_within zero used k st s at = no_record st at
page_within (suc most) used k st s at =
    let reply = record_reply k st s at in
    cond (ltb page_room used) (no_record st at)
    (onward reply (page_within most (used + length reply.text) (suc k) reply.state s reply.next))

-- The most records of a page.
abbrev pub page_limit : ℕ
page_limit = 16384

-- What the code hands back, by its parts.
abbrev pub replayed_so : State → ℕ → ℕ → ℕ → Bool → Replayed
replayed_so st next count length more = record { state = st; next = next; count = count; length = length; more = more }

-- The text stands from the start of the buffer on and the rest of the buffer is untouched; all else is as the records give.
pub record Replied (p : Page) (old new : List ℕ) (r : Replayed) : Type 0 where
  pub text : Written 1064960 old 0 p.text new r.length
  pub state : r.state ≡ p.state
  pub next : r.next ≡ p.next
  pub count : r.count ≡ p.count
  pub more : r.more ≡ p.more
