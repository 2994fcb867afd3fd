-- What a journal promises: how far its pages go, that they join, that one by room is one by count, that the allowance of records never runs out,
-- the state after them, and that it prints what a book prints where it has no record of its own. Assumes nothing.
use Rattle.std.specs.Prelude.{Ok, Err, Option, Some, None}
use Prim.Native.Nat.{ℕ, zero, suc, ◌+◌, ◌-◌, ◌*◌, ◌≤◌, ◌<◌}
use mathlib.Core.Path.{◌≡◌, refl, sym, ap, ap₂, subst, ◌∙◌}
use mathlib.Core.Bool.{Bool, true, false, cond}
use mathlib.Core.List.{List, [], ◌++◌, append_assoc}
use lib.Dec.{ltb}
use lib.ListN.{length, take}
use native.Mathlib.Omega.{arith}
use borrow.Author.Tests.{lt-ltb, le-ltb}
use Rattle.laws.proofs.Cases.{by_bool, by_lt}
use Rattle.model.specs.declared.Refusal.{Refusal}
use Rattle.model.specs.Answers.{Answer}
use Rattle.model.specs.declared.Balance.{Balance}
use Rattle.model.specs.View.{view_of}
use Rattle.record.specs.declared.CallAt.{CallAt}
use Rattle.record.specs.declared.CallAt.TheVariants.{End as noCall, Fails as failing, Asks}
use Rattle.record.specs.Calls.{call_at, calls_from, ending_from, calls_of, ending_of}
use Rattle.register.specs.Calls.{call_reply, after}
use Rattle.book.specs.Reading.{opened}
use Rattle.planning.specs.declared.State.{State}
use Rattle.planning.specs.declared.Opened.{Opened}
use Rattle.planning.specs.State.{nothing_kept}
use Rattle.planning.specs.Calls.{opened_state}
use Rattle.requests.specs.declared.OwnMark.{OwnMark}
use Rattle.requests.specs.declared.OwnMark.TheVariants.{Kp, Gb, Wi}
use Rattle.requests.specs.declared.RecordAt.{RecordAt}
use Rattle.requests.specs.declared.RecordAt.TheVariants.{End, Fails, Calls, Keeps, Returns, Watches}
use Rattle.requests.specs.Records.{own_at, own_marked, besides, record_at}
use Rattle.requests.specs.Requests.{ask, state_after, states_after, Asking, ends, fails, asks, asking, request_at, requests_from}
use Rattle.report.specs.Lines.{refused_line}
use Rattle.listing.specs.Listing.{table_text, call_lines, end_text, run_text, answer_text, printed}
use Rattle.calls.proofs.Onward.{asks_onward}
use Rattle.replies.specs.Reply.{reply_text}
use Rattle.replay.specs.Page.{Page, reply_to, record_reply, joined, onward, page_of, page_room, page_within}
use Rattle.replay.specs.Journal.{is_own, journal_opened, all_replies, replies_text, opened_text, journal_limit, journal_text}
use Rattle.transcript.specs.Plain.{fails_at_own, Plain}
use Rattle.replay.proofs.Records.{Onward, onward as record-onward}
use Rattle.replay.proofs.Replaying.{page_ends, page_fails, page_asks, page_none}

-- How far what is asked goes: a request at least 4 bytes, and not past the end.
abbrev Reaches : List ℕ → ℕ → Asking → Type 0
Reaches s at ends = Unit {0}
Reaches s at (fails n) = Unit {0}
Reaches s at (asks r to) = (at + 4 ≤ to) × (to ≤ length s)

-- So far goes what a record asks.
asking_reaches : (s : List ℕ) (at : ℕ) (x : RecordAt) → Onward s at x → Reaches s at (asking x s at)
asking_reaches s at End o = tt
asking_reaches s at (Fails n) o = tt
asking_reaches s at (Calls c to) o = o
asking_reaches s at (Keeps to) o = (omega arith, o.1)
asking_reaches s at (Returns to) o = (omega arith, o.1)
asking_reaches s at (Watches to) o = (omega (arith, o.0), o.1)

-- A request is at least 4 bytes long and ends within the journal.
request_reaches : (s : List ℕ) (at : ℕ) → Reaches s at (request_at s at)
request_reaches s at = asking_reaches s at (record_at s at) (record-onward s at)

-- How far a page goes from an offset, with at most m records: at least 4 bytes for each record, no more records than asked for, not past the
-- end of the journal, and exactly m records where there may be more.
pub record GoesOn (m at : ℕ) (s : List ℕ) (p : Page) : Type 0 where
  pub far : at + 4 * p.count ≤ p.next
  pub few : p.count ≤ m
  pub inside : 0 < p.count → p.next ≤ length s
  pub within : at ≤ length s → p.next ≤ length s
  pub full : p.more ≡ true → p.count ≡ m

-- Nothing is both false and true.
false_true : {X : Type 0} → false ≡ true → X
false_true e = let z : ◌≡◌ {A = ℕ} 0 1 = cc in absurd (omega arith)

-- One record more goes on, by what is asked.
module _ (m k : ℕ) (st : State) (s : List ℕ) (at : ℕ) (rest : (k : ℕ) (st : State) (to : ℕ) → GoesOn m to s (page_of m k st s to)) where
  goes_one : (x : Asking) → request_at s at ≡ x → Reaches s at x → GoesOn (suc m) at s (page_of (suc m) k st s at)
  goes_one ends e o =
      subst (GoesOn (suc m) at s) (sym (page_ends m k st s at e))
      (record { far = omega arith; few = omega arith; inside = λ h. absurd (omega arith); within = λ h. h; full = λ h. false_true h })
  goes_one (fails n) e o =
      subst (GoesOn (suc m) at s) (sym (page_fails m k st s at n e))
      (record { far = omega arith; few = omega arith; inside = λ h. absurd (omega arith); within = λ h. h; full = λ h. false_true h })
  goes_one (asks r to) e o =
      let g = rest (suc k) (state_after st r) to in
      subst (GoesOn (suc m) at s) (sym (page_asks m k st s at r to e))
      (record {
        far = omega arith;
        few = omega arith;
        inside = λ h. g.within o.1;
        within = λ h. g.within o.1;
        full = λ h. omega (arith, g.full h);
      })

-- A page goes on from where it begins.
pub page_onward : (m k : ℕ) (st : State) (s : List ℕ) (at : ℕ) → GoesOn m at s (page_of m k st s at)
page_onward zero k st s at =
    subst (GoesOn 0 at s) (sym (page_none k st s at))
    (record { far = omega arith; few = omega arith; inside = λ h. absurd (omega arith); within = λ h. h; full = λ h. refl })
page_onward (suc m) k st s at =
    goes_one m k st s at (λ k st to. page_onward m k st s to) (request_at s at) refl (request_reaches s at)

-- A page, and then a page of at most n records more from where it stopped, k being the place of the first page's first record.
abbrev continued : ℕ → ℕ → List ℕ → Page → Page
continued n k s p = onward p (page_of n (k + p.count) p.state s p.next)

-- One record and then two pages are the record with the first page, and then the second.
joined_first : (a p q : Page) (more : Bool) → joined a (cond more (joined p q) p) ≡ cond more (joined (joined a p) q) (joined a p)
joined_first a p q true =
    let c : a.count + (p.count + q.count) ≡ a.count + p.count + q.count = omega arith in
    λ j. record { text = sym (append_assoc a.text p.text q.text) j; state = q.state; next = q.next; count = c j; more = q.more }
joined_first a p q false = refl

-- No records and then a page are the page.
none_joined : (st : State) (at : ℕ) (q : Page)
    → q ≡ joined (record { text = []; state = st; next = at; count = 0; more = true }) q
none_joined st at q =
    let c : q.count ≡ 0 + q.count = omega arith in
    λ j. record { text = q.text; state = q.state; next = q.next; count = c j; more = q.more }

-- Pages with one record more join, by what is asked.
module _ (m n k : ℕ) (st : State) (s : List ℕ) (at : ℕ)
    (rest : (k : ℕ) (st : State) (to : ℕ) → page_of (m + n) k st s to ≡ continued n k s (page_of m k st s to)) where
  join_one : (x : Asking) → request_at s at ≡ x → page_of (suc (m + n)) k st s at ≡ continued n k s (page_of (suc m) k st s at)
  join_one ends e = page_ends (m + n) k st s at e ∙ sym (ap (continued n k s) (page_ends m k st s at e))
  join_one (fails x) e = page_fails (m + n) k st s at x e ∙ sym (ap (continued n k s) (page_fails m k st s at x e))
  join_one (asks r to) e =
      let a = reply_to (asks r to) k st at in
      let p = page_of m (suc k) (state_after st r) s to in
      let place : suc k + p.count ≡ k + (1 + p.count) = omega arith in
      page_asks (m + n) k st s at r to e
      ∙ ap (joined a) (rest (suc k) (state_after st r) to)
      ∙ joined_first a p (page_of n (suc k + p.count) p.state s p.next) p.more
      ∙ ap (λ (x : ℕ). onward (joined a p) (page_of n x p.state s p.next)) place
      ∙ sym (ap (continued n k s) (page_asks m k st s at r to e))

-- Pages one after the other are the page of all their records.
pub pages_join : (m n k : ℕ) (st : State) (s : List ℕ) (at : ℕ)
    → page_of (m + n) k st s at
    ≡ onward (page_of m k st s at) (page_of n (k + (page_of m k st s at).count) (page_of m k st s at).state s (page_of m k st s at).next)
pages_join zero n k st s at =
    let all : 0 + n ≡ n = omega arith in
    let first : k ≡ k + 0 = omega arith in
    ap (λ (x : ℕ). page_of x k st s at) all
    ∙ none_joined st at (page_of n k st s at)
    ∙ ap (λ (x : ℕ). joined (record { text = []; state = st; next = at; count = 0; more = true }) (page_of n x st s at)) first
    ∙ sym (ap (continued n k s) (page_none k st s at))
pages_join (suc m) n k st s at =
    let all : suc m + n ≡ suc (m + n) = omega arith in
    ap (λ (x : ℕ). page_of x k st s at) all ∙ join_one m n k st s at (λ k st to. pages_join m n k st s to) (request_at s at) refl

-- A page that ends by the room of the buffer is a page of some number of records, at least one where there is room for the longest reply.
pub record Fitting (m u k : ℕ) (st : State) (s : List ℕ) (at : ℕ) : Type 0 where
  pub most : ℕ
  pub few : most ≤ m
  pub some : 0 < m → u ≤ page_room → 0 < most
  pub same : page_within m u k st s at ≡ page_of most k st s at

pub fitting : (m u k : ℕ) (st : State) (s : List ℕ) (at : ℕ) → Fitting m u k st s at
unfolding page_of page_within
fitting zero u k st s at = record { most = 0; few = omega arith; some = λ h r. absurd (omega arith); same = refl }
fitting (suc m) u k st s at =
    let reply = record_reply k st s at in
    let rest = fitting m (u + length reply.text) (suc k) reply.state s reply.next in
    by_lt page_room u
    (λ h. record { most = 0; few = omega arith; some = λ z r. absurd (omega arith); same = rw (lt-ltb page_room u h) refl })
    (λ h.
    record {
      most = suc rest.most;
      few = omega (arith, rest.few);
      some = λ z r. omega arith;
      same = rw (le-ltb page_room u h) (ap (onward reply) rest.same);
    })

-- One record more is the same under both allowances, by what is asked.
module _ (f g k : ℕ) (st : State) (s : List ℕ) (at : ℕ)
    (rest : (k : ℕ) (st : State) (to : ℕ) → at < to → to ≤ length s → page_of f k st s to ≡ page_of g k st s to) where
  same_one : (x : Asking) → request_at s at ≡ x → Reaches s at x → page_of (suc f) k st s at ≡ page_of (suc g) k st s at
  same_one ends e o = page_ends f k st s at e ∙ sym (page_ends g k st s at e)
  same_one (fails n) e o = page_fails f k st s at n e ∙ sym (page_fails g k st s at n e)
  same_one (asks r to) e o =
      page_asks f k st s at r to e
      ∙ ap (joined (reply_to (asks r to) k st at)) (rest (suc k) (state_after st r) to (omega (arith, o.0)) o.1)
      ∙ sym (page_asks g k st s at r to e)

-- Two allowances above the number of bytes that are left give the same page.
pub same_pages : (f g k : ℕ) (st : State) (s : List ℕ) (at : ℕ) → length s - at < f → length s - at < g → page_of f k st s at ≡ page_of g k st s at
same_pages zero g k st s at h i = absurd (omega arith)
same_pages (suc f) zero k st s at h i = absurd (omega arith)
same_pages (suc f) (suc g) k st s at h i =
    same_one f g k st s at (λ k st to a b. same_pages f g k st s to (omega arith) (omega arith)) (request_at s at) refl (request_reaches s at)

-- The allowance of records never runs out: with any larger allowance the page is the same.
pub enough_records : (s : List ℕ) (e k : ℕ) (st : State) (at : ℕ) → page_of (length s + 1 + e) k st s at ≡ page_of (length s + 1) k st s at
enough_records s e k st at = same_pages (length s + 1 + e) (length s + 1) k st s at (omega arith) (omega arith)

-- Nothing follows all replies of a journal.
pub all_ended : (s : List ℕ) (at : ℕ) (st : State) → (all_replies s at st).more ≡ false
all_ended s at st =
    let g = page_onward (length s + 1) 1 st s at in
    by_bool (all_replies s at st).more
    (λ e.
    let c : (all_replies s at st).count ≡ length s + 1 = g.full e in
    let i : (all_replies s at st).next ≤ length s = g.inside (omega arith) in
    absurd (omega (arith, g.far)))
    (λ e. e)

-- The state after one record more, by what is asked.
module _ (m k : ℕ) (st : State) (s : List ℕ) (at : ℕ)
    (rest : (k : ℕ) (st : State) (to : ℕ) → (page_of m k st s to).state ≡ states_after st (requests_from m s to)) where
  state_one : (x : Asking) → request_at s at ≡ x → (page_of (suc m) k st s at).state ≡ states_after st (requests_from (suc m) s at)
  unfolding requests_from states_after
  state_one ends e = ap (λ (p : Page). p.state) (page_ends m k st s at e) ∙ rw (e, requests_from) refl
  state_one (fails n) e = ap (λ (p : Page). p.state) (page_fails m k st s at n e) ∙ rw (e, requests_from) refl
  state_one (asks r to) e =
      ap (λ (p : Page). p.state) (page_asks m k st s at r to e) ∙ rest (suc k) (state_after st r) to ∙ rw (e, requests_from) refl

-- The state after a page is the state after the requests of its records.
pub page_state : (m k : ℕ) (st : State) (s : List ℕ) (at : ℕ) → (page_of m k st s at).state ≡ states_after st (requests_from m s at)
unfolding requests_from states_after
page_state zero k st s at = ap (λ (p : Page). p.state) (page_none k st s at)
page_state (suc m) k st s at = state_one m k st s at (λ k st to. page_state m k st s to) (request_at s at) refl

-- Without a mark of its own a record fails as the calls of a book say.
not_own : (s : List ℕ) (at : ℕ) (n : Refusal) (m : Option OwnMark) → is_own m ≡ false → asking (own_marked m s at n) s at ≡ fails n
not_own s at n (Some Kp) e = false_true (sym e)
not_own s at n (Some Gb) e = false_true (sym e)
not_own s at n (Some Wi) e = false_true (sym e)
not_own s at n None e = refl

-- What a journal asks at an offset, by the call of a book that stands there.
module _ (s : List ℕ) (at : ℕ) where
  pub asked_by : (x : CallAt) → call_at s at ≡ x → request_at s at ≡ asking (besides x s at) s at
  unfolding record_at
  asked_by x e = ap (λ (y : CallAt). asking (besides y s at) s at) e

  asked_fails : (n : Refusal) → call_at s at ≡ failing n → is_own (own_at s at) ≡ false → request_at s at ≡ fails n
  asked_fails n e h = asked_by (failing n) e ∙ not_own s at n (own_at s at) h

-- The page says what the calls of a book say: their lines, the line of a record that failed, and the balance after them.
record AsBook (m k : ℕ) (st : State) (s : List ℕ) (at : ℕ) (p : Page) : Type 0 where
  text : p.text ≡ call_lines k st.balance (calls_from m s at) ++ end_text (ending_from m s at)
  balance : p.state.balance ≡ after st.balance (calls_from m s at)

-- One record more says so, by the call of a book that stands there.
module _ (m k : ℕ) (st : State) (s : List ℕ) (at : ℕ)
    (rest : (k : ℕ) (st : State) (to : ℕ) → at < to → to ≤ length s → fails_at_own s (ending_from m s to) ≡ false
    → AsBook m k st s to (page_of m k st s to)) where
  book_one : (x : CallAt) → call_at s at ≡ x → fails_at_own s (ending_from (suc m) s at) ≡ false → AsBook (suc m) k st s at (page_of (suc m) k st s at)
  unfolding calls_from ending_from call_lines after
  book_one noCall e h =
      subst (AsBook (suc m) k st s at) (sym (page_ends m k st s at (asked_by s at noCall e)))
      (record { text = rw (e, calls_from, ending_from) refl; balance = rw (e, calls_from) refl })
  book_one (failing n) e h =
      let own : is_own (own_at s at) ≡ false = rw (e, ending_from) at h in
      subst (AsBook (suc m) k st s at) (sym (page_fails m k st s at n (asked_fails s at n e own)))
      (record { text = rw (e, calls_from, ending_from) refl; balance = rw (e, calls_from) refl })
  book_one (Asks c to) e h =
      let o = asks_onward s at c to e in
      let own : fails_at_own s (ending_from m s to) ≡ false = rw (e, ending_from) at h in
      let r = rest (suc k) (state_after st (ask c)) to (omega (arith, o.0)) o.1 own in
      let line = reply_text k st (ask c) in
      let lines = call_lines (suc k) (call_reply st.balance c).balance (calls_from m s to) in
      subst (AsBook (suc m) k st s at) (sym (page_asks m k st s at (ask c) to (asked_by s at (Asks c to) e)))
      (record {
        text = rw (e, calls_from, ending_from) (ap (λ (l : List ℕ). line ++ l) r.text ∙ sym (append_assoc line lines (end_text (ending_from m s to))));
        balance = rw (e, calls_from) r.balance;
      })

-- With an allowance above the number of bytes that are left a page says so.
as_book : (m k : ℕ) (st : State) (s : List ℕ) (at : ℕ) → length s - at < m → fails_at_own s (ending_from m s at) ≡ false
    → AsBook m k st s at (page_of m k st s at)
as_book zero k st s at h own = absurd (omega arith)
as_book (suc m) k st s at h own =
    book_one m k st s at (λ k st to a b. as_book m k st s to (omega arith)) (call_at s at) refl own

-- All replies and the table are what the calls of a book and their table are.
replies_as_book : (s : List ℕ) (at : ℕ) (b : Balance) → fails_at_own s (ending_of s at) ≡ false
    → replies_text (all_replies s at (nothing_kept b)) ≡ run_text s at b
replies_as_book s at b own =
    let g = as_book (length s + 1) 1 (nothing_kept b) s at (omega arith) own in
    ap₂ (λ (l : List ℕ) (x : Balance). l ++ table_text (view_of x)) g.text g.balance
    ∙ append_assoc (call_lines 1 b (calls_of s at)) (end_text (ending_of s at)) (table_text (view_of (after b (calls_of s at))))

-- A description is printed as that of a book.
text_as_book : (s : List ℕ) (a : Answer) (place : ℕ) (b : Balance) → (a ≡ Ok tt → fails_at_own s (ending_of s place) ≡ false)
    → opened_text s a place (nothing_kept b) ≡ answer_text s a place b
text_as_book s (Ok u) place b own = replies_as_book s place b (own refl)
text_as_book s (Err n) place b own = refl

-- A journal of at most 65,536 bytes that has no record of its own prints what a book prints.
pub prints_as_balance : (s : List ℕ) → length s ≤ 65536 → Plain s → journal_text s ≡ printed s
prints_as_balance s h p =
    let long : ltb journal_limit (length s) ≡ false = le-ltb journal_limit (length s) (omega arith) in
    let short : ltb 65536 (length s) ≡ false = le-ltb 65536 (length s) h in
    let o : journal_opened s ≡ opened_state s
    = ap (λ (t : Bool). opened_state (cond t (take (opened_state s).place s) s)) p.description in
    ap (λ (t : Bool). cond t (refused_line 21 journal_limit) (opened_text s (journal_opened s).answer (journal_opened s).place (journal_opened s).state)) long
    ∙ ap (λ (x : Opened). opened_text s x.answer x.place x.state) o
    ∙ text_as_book s (opened s).answer (opened s).place (opened s).balance p.records
    ∙ sym (ap (λ (t : Bool). cond t (refused_line 21 65536) (answer_text s (opened s).answer (opened s).place (opened s).balance)) short)
