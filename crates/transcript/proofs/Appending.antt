-- What a journal asks stays asked when bytes are appended, and its replies stay its replies: those to what is appended follow. Assumes nothing.
use Rattle.std.specs.Prelude.{Option, Some, None}
use Prim.Native.Nat.{ℕ, zero, suc, ◌+◌, ◌-◌, ◌≤◌, ◌<◌}
use mathlib.Core.Path.{◌≡◌, refl, sym, ap, ap₂, ◌∙◌}
use mathlib.Core.Bool.{Bool, true, false}
use mathlib.Core.List.{List, [], ◌∷◌, ◌++◌, append_assoc}
use lib.ListN.{length, get_or, take, drop, length-append, length-drop, get_or-append}
use lib.Seq.{drop-append-le, take-append-le}
use native.Mathlib.Omega.{arith}
use borrow.Author.Tests.{lt-ltb, le-ltb}
use Rattle.laws.proofs.Cases.{by_lt}
use Rattle.model.specs.declared.Refusal.{Refusal}
use Rattle.model.specs.declared.Refusal.TheVariants.{Short, UnknownMark}
use Rattle.record.specs.declared.CallAt.{CallAt}
use Rattle.record.specs.declared.CallAt.TheVariants.{End as noCall, Fails as failing, Asks}
use Rattle.record.specs.declared.CallMark.{CallMark}
use Rattle.record.specs.Bytes.{bits8}
use Rattle.record.specs.Record.{call_mark}
use Rattle.record.specs.Calls.{call_marked, call_at}
use Rattle.planning.specs.declared.Name.{Name}
use Rattle.planning.specs.declared.State.{State}
use Rattle.planning.specs.Names.{name_length}
use Rattle.requests.specs.declared.OwnMark.{OwnMark}
use Rattle.requests.specs.declared.OwnMark.TheVariants.{Kp, Gb, Wi}
use Rattle.requests.specs.declared.RecordAt.{RecordAt}
use Rattle.requests.specs.declared.RecordAt.TheVariants.{End, Fails, Calls, Keeps, Returns, Watches}
use Rattle.requests.specs.Records.{own_mark, own_at, own_size, own_is, name_at, own_marked, besides, record_at}
use Rattle.requests.specs.Watched.{Watched, window_size}
use Rattle.transcript.proofs.Watching.{size_alike, watched_alike}
use Rattle.requests.specs.Requests.{Request, keep, back, watch, state_after, Asking, ends, fails, asks, asking, request_at, requests_from, requests_of}
use Rattle.replay.specs.Page.{Page, reply_to, joined, page_of}
use Rattle.replay.proofs.Records.{Onward, onward as record-onward}
use Rattle.replay.proofs.Replaying.{page_ends, page_fails, page_asks, page_none}
use Rattle.transcript.specs.Followed.{failure_from}
use Rattle.transcript.specs.Appended.{end_from, end_of, Whole, going_on}
use Rattle.transcript.proofs.Pages.{asked_by, same_pages}
use Rattle.transcript.proofs.Alike.{call_end, call_marked_lem, same_call}
use Rattle.transcript.proofs.Cutting.{by_spelling}

-- What is asked by a record that no call of a book is, by the mark of a journal alone.
asked_own : (s : List ℕ) (at : ℕ) (n : Refusal) (m : Option OwnMark) → call_at s at ≡ failing n → own_at s at ≡ m
    → request_at s at ≡ asking (own_marked m s at n) s at
asked_own s at n m e o = asked_by s at (failing n) e ∙ ap (λ (y : Option OwnMark). asking (own_marked y s at n) s at) o

-- A mark of a journal alone is no call's, and its record has at least six bytes.
no_call : (a b : ℕ) (m : OwnMark) → own_mark a b ≡ Some m → call_mark a b ≡ None
no_call a b m h =
    by_spelling a b 75 80 (λ p q. ap₂ call_mark p q)
    (λ e. by_spelling a b 71 66 (λ p q. ap₂ call_mark p q)
    (λ f. by_spelling a b 87 73 (λ p q. ap₂ call_mark p q)
    (λ g. let w : None ≡ Some m = rw (e, f, g) at h in cc)))

own_call : (s : List ℕ) (at : ℕ) (m : OwnMark) → at + 2 ≤ length s → own_at s at ≡ Some m → call_at s at ≡ failing UnknownMark
own_call s at m h o =
    let w : own_mark (bits8 s at) (bits8 s (at + 1)) ≡ Some m = rw (le-ltb (length s - at) 2 (omega arith)) at o in
    call_marked_lem s at h ∙ ap (λ (x : Option CallMark). call_marked x s at) (no_call (bits8 s at) (bits8 s (at + 1)) m w)

own_some : (m : OwnMark) (s : List ℕ) (at : ℕ) → 6 ≤ own_size m s at
own_some Kp s at = omega arith
own_some Gb s at = omega arith
own_some Wi s at = omega arith

-- Nothing is asked at the end.
pub asks_nothing : (s : List ℕ) (at : ℕ) → length s ≤ at → request_at s at ≡ ends
asks_nothing s at h = asked_by s at noCall (call_end s at h)

module _ (s t : List ℕ) where
  -- The bytes of the first are the same with others appended.
  pub same : (i : ℕ) → i < length s → get_or (s ++ t) i 0 ≡ get_or s i 0
  same i h = get_or-append s t 0 i h

  pub within : length s ≤ length (s ++ t)
  within = omega (arith, length-append s t)

  -- A name within the first is the same.
  same_name : (at : ℕ) → at + 8 ≤ length s → name_at (s ++ t) at ≡ name_at s at
  same_name at h =
      let d : drop at (s ++ t) ≡ drop at s ++ t = drop-append-le at s t (omega arith) in
      let l : 8 ≤ length (drop at s) = omega (arith, length-drop at s) in
      λ k. record { bytes = (ap (λ (x : List ℕ). take name_length x) d ∙ take-append-le 8 (drop at s) t l) k }

  -- A mark within the first is the same.
  pub same_own : (at : ℕ) → at + 2 ≤ length s → own_at (s ++ t) at ≡ own_at s at
  same_own at h =
      rw (le-ltb (length s - at) 2 (omega arith), le-ltb (length (s ++ t) - at) 2 (omega (arith, length-append s t)))
      (ap₂ own_mark (same at (omega arith)) (same (at + 1) (omega arith)))

  -- Of a record of a journal's own that is whole in the first, the size is the same, and so is what it asks.
  own_same : (at : ℕ) (m : OwnMark) → at + own_size m s at ≤ length s
      → (own_size m (s ++ t) at ≡ own_size m s at) × ((to : ℕ) → asking (own_is m to) (s ++ t) at ≡ asking (own_is m to) s at)
  own_same at Kp h = (refl, λ to. ap (λ (x : Name). asks (keep x) to) (same_name (at + 2) (omega arith)))
  own_same at Gb h = (refl, λ to. ap (λ (x : Name). asks (back x) to) (same_name (at + 2) (omega arith)))
  own_same at Wi h =
      let bytes = λ (i : ℕ) (g : i < window_size s at). same (at + i) (omega arith) in
      (size_alike (s ++ t) at s at bytes, λ to. ap (λ (x : Watched). asks (watch x) to) (watched_alike (s ++ t) at s at bytes))

  -- It is asked still.
  own_appended : (at : ℕ) (n : Refusal) (r : Request) (to : ℕ) → (m : Option OwnMark) → own_at s at ≡ m
      → asking (own_marked m s at n) s at ≡ asks r to → request_at (s ++ t) at ≡ asks r to
  own_appended at n r to None o q = cc
  own_appended at n r to (Some m) o q =
      by_lt (length s - at) (own_size m s at)
      (λ l. let w : fails Short ≡ asks r to = rw (lt-ltb (length s - at) (own_size m s at) l) at q in cc)
      (λ l.
      let some = own_some m s at in
      let alike = own_same at m (omega arith) in
      let w : asking (own_is m (at + own_size m s at)) s at ≡ asks r to = rw (le-ltb (length s - at) (own_size m s at) l) at q in
      let own = same_own at (omega arith) ∙ o in
      asked_own (s ++ t) at UnknownMark (Some m) (own_call (s ++ t) at m (omega (arith, length-append s t)) own) own
      ∙ rw (alike.0, le-ltb (length (s ++ t) - at) (own_size m s at) (omega (arith, length-append s t))) (alike.1 (at + own_size m s at) ∙ w))

  -- So is a call of a book.
  asked_appended : (at : ℕ) (r : Request) (to : ℕ) → (x : CallAt) → call_at s at ≡ x → asking (besides x s at) s at ≡ asks r to
      → request_at (s ++ t) at ≡ asks r to
  asked_appended at r to noCall e q = cc
  asked_appended at r to (Asks c o) e q = asked_by (s ++ t) at (Asks c o) (same_call s (s ++ t) same within at c o e) ∙ q
  asked_appended at r to (failing n) e q = own_appended at n r to (own_at s at) refl q

  -- What is asked at an offset stays asked whatever bytes are appended.
  pub request_appended : (at : ℕ) (r : Request) (to : ℕ) → request_at s at ≡ asks r to → request_at (s ++ t) at ≡ asks r to
  request_appended at r to q = asked_appended at r to (call_at s at) refl (sym (asked_by s at (call_at s at) refl) ∙ q)

-- A request is at least 4 bytes long and ends within the journal.
goes : (s : List ℕ) (at : ℕ) (r : Request) (to : ℕ) (x : RecordAt) → Onward s at x → asking x s at ≡ asks r to → (at + 4 ≤ to) × (to ≤ length s)
goes s at r to End o q = cc
goes s at r to (Fails n) o q = cc
goes s at r to (Calls c p) o q = let e : p ≡ to = cc in (omega (arith, o.0), omega (arith, o.1))
goes s at r to (Keeps p) o q = let e : p ≡ to = cc in (omega (arith, o.0), omega (arith, o.1))
goes s at r to (Returns p) o q = let e : p ≡ to = cc in (omega (arith, o.0), omega (arith, o.1))
goes s at r to (Watches p) o q = let e : p ≡ to = cc in (omega (arith, o.0), omega (arith, o.1))

pub request_goes : (s : List ℕ) (at : ℕ) (r : Request) (to : ℕ) → request_at s at ≡ asks r to → (at + 4 ≤ to) × (to ≤ length s)
request_goes s at r to q = goes s at r to (record_at s at) (record-onward s at) q

-- By what is asked at an offset.
pub by_asking : {X : Type 0} (s : List ℕ) (at : ℕ) → (request_at s at ≡ ends → X) → ((n : Refusal) → request_at s at ≡ fails n → X)
    → ((r : Request) (to : ℕ) → request_at s at ≡ asks r to → X) → X
by_asking {X} s at none bad good = go (request_at s at) refl
  where
    go : (x : Asking) → request_at s at ≡ x → X
    go ends e = none e
    go (fails n) e = bad n e
    go (asks r to) e = good r to e

-- One record more of the requests, and of where they end.
module _ (f : ℕ) (s : List ℕ) (at : ℕ) where
  pub from_none : request_at s at ≡ ends → requests_from (suc f) s at ≡ []
  unfolding requests_from
  from_none e = rw (e, requests_from)

  pub from_failing : (n : Refusal) → request_at s at ≡ fails n → requests_from (suc f) s at ≡ []
  unfolding requests_from
  from_failing n e = rw (e, requests_from)

  pub from_asked : (r : Request) (to : ℕ) → request_at s at ≡ asks r to → requests_from (suc f) s at ≡ r ∷ requests_from f s to
  unfolding requests_from
  from_asked r to e = rw (e, requests_from)

  pub end_none : request_at s at ≡ ends → end_from (suc f) s at ≡ at
  unfolding end_from
  end_none e = rw (e, end_from)

  pub end_failing : (n : Refusal) → request_at s at ≡ fails n → end_from (suc f) s at ≡ at
  unfolding end_from
  end_failing n e = rw (e, end_from)

  pub end_asked : (r : Request) (to : ℕ) → request_at s at ≡ asks r to → end_from (suc f) s at ≡ end_from f s to
  unfolding end_from
  end_asked r to e = rw (e, end_from)

pub from_zero : (s : List ℕ) (at : ℕ) → requests_from 0 s at ≡ []
unfolding requests_from
from_zero s at = refl

pub end_zero : (s : List ℕ) (at : ℕ) → end_from 0 s at ≡ at
unfolding end_from
end_zero s at = refl

-- Two allowances above the number of bytes that are left give the same requests.
pub same_requests : (f g : ℕ) (s : List ℕ) (at : ℕ) → length s - at < f → length s - at < g → requests_from f s at ≡ requests_from g s at
same_requests zero g s at h i = absurd (omega arith)
same_requests (suc f) zero s at h i = absurd (omega arith)
same_requests (suc f) (suc g) s at h i =
    by_asking s at
    (λ e. from_none f s at e ∙ sym (from_none g s at e))
    (λ n e. from_failing f s at n e ∙ sym (from_failing g s at n e))
    (λ r to e.
    let o = request_goes s at r to e in
    from_asked f s at r to e
    ∙ ap (λ (l : List Request). r ∷ l) (same_requests f g s to (omega (arith, o.0, o.1)) (omega (arith, o.0, o.1)))
    ∙ sym (from_asked g s at r to e))

-- A page, and then the records from another offset on, at the places after it and on the state that it left.
abbrev follows : ℕ → ℕ → List ℕ → ℕ → Page → Page
follows g k s at p = joined p (page_of g (k + p.count) p.state s at)

-- No records and then a page are the page.
none_joined : (g k : ℕ) (st : State) (s : List ℕ) (at next : ℕ) (more : Bool)
    → page_of g k st s at ≡ follows g k s at (record { text = []; state = st; next = next; count = 0; more = more })
none_joined g k st s at next more =
    let q = page_of g k st s at in
    let none : Page = record { text = []; state = st; next = next; count = 0; more = more } in
    let c : q.count ≡ 0 + q.count = omega arith in
    let first : k ≡ k + 0 = omega arith in
    (λ j. record { text = q.text; state = q.state; next = q.next; count = c j; more = q.more })
    ∙ ap (λ (x : ℕ). joined none (page_of g x st s at)) first

-- Three pages one after the other, taken together either way.
joined_assoc : (a p q : Page) → joined a (joined p q) ≡ joined (joined a p) q
joined_assoc a p q =
    let c : a.count + (p.count + q.count) ≡ a.count + p.count + q.count = omega arith in
    λ j. record { text = sym (append_assoc a.text p.text q.text) j; state = q.state; next = q.next; count = c j; more = q.more }

module _ (s t : List ℕ) where
  -- The requests of the first come first, and those from where they end on follow.
  requests_join : (m f g at : ℕ) → length (s ++ t) - at < f → length (s ++ t) - at < g
      → requests_from f (s ++ t) at ≡ requests_from m s at ++ requests_from g (s ++ t) (end_from m s at)
  requests_join zero f g at h i =
      same_requests f g (s ++ t) at h i
      ∙ sym (ap₂ (λ (x : List Request) (y : ℕ). x ++ requests_from g (s ++ t) y) (from_zero s at) (end_zero s at))
  requests_join (suc m) zero g at h i = absurd (omega arith)
  requests_join (suc m) (suc f) g at h i =
      by_asking s at
      (λ e.
      same_requests (suc f) g (s ++ t) at h i
      ∙ sym (ap₂ (λ (x : List Request) (y : ℕ). x ++ requests_from g (s ++ t) y) (from_none m s at e) (end_none m s at e)))
      (λ n e.
      same_requests (suc f) g (s ++ t) at h i
      ∙ sym (ap₂ (λ (x : List Request) (y : ℕ). x ++ requests_from g (s ++ t) y) (from_failing m s at n e) (end_failing m s at n e)))
      (λ r to e.
      let o = request_goes s at r to e in
      from_asked f (s ++ t) at r to (request_appended s t at r to e)
      ∙ ap (λ (x : List Request). r ∷ x) (requests_join m f g to (omega (arith, o.0, o.1, within s t)) (omega (arith, o.0, o.1, within s t)))
      ∙ sym (ap₂ (λ (x : List Request) (y : ℕ). x ++ requests_from g (s ++ t) y) (from_asked m s at r to e) (end_asked m s at r to e)))

  -- What a journal asked stays asked, in order and none lost, and what stands from there on follows.
  pub requests_stay : (at : ℕ) → requests_of (s ++ t) at ≡ requests_of s at ++ requests_of (s ++ t) (end_of s at)
  requests_stay at = requests_join (length s + 1) (length (s ++ t) + 1) (length (s ++ t) + 1) at (omega arith) (omega arith)

  -- Where its records are whole, what is appended follows.
  pub requests_appended : (at : ℕ) → Whole s at → requests_of (s ++ t) at ≡ requests_of s at ++ requests_of (s ++ t) (length s)
  requests_appended at w = requests_stay at ∙ ap (λ (x : ℕ). requests_of s at ++ requests_of (s ++ t) x) w

  -- Where no record of the first is left, its replies are none, and those from its end on follow.
  page_left : (f g k : ℕ) (st : State) (at : ℕ) (more : Bool) → at ≡ length s → length (s ++ t) - at < f → length (s ++ t) - length s < g
      → page_of f k st (s ++ t) at ≡ follows g k (s ++ t) (length s) (record { text = []; state = st; next = at; count = 0; more = more })
  page_left f g k st at more a h i =
      ap (page_of f k st (s ++ t)) a
      ∙ same_pages f g k st (s ++ t) (length s) (omega arith) i
      ∙ none_joined g k st (s ++ t) (length s) at more

  -- The replies of the first come first, and those from its end on follow.
  page_join : (m f g k : ℕ) (st : State) (at : ℕ) → at ≤ length s → end_from m s at ≡ length s → length (s ++ t) - at < f
      → length (s ++ t) - length s < g → page_of f k st (s ++ t) at ≡ follows g k (s ++ t) (length s) (page_of m k st s at)
  page_join zero f g k st at l w h i =
      page_left f g k st at true (sym (end_zero s at) ∙ w) h i
      ∙ ap (follows g k (s ++ t) (length s)) (sym (page_none k st s at))
  page_join (suc m) zero g k st at l w h i = absurd (omega arith)
  page_join (suc m) (suc f) g k st at l w h i =
      by_asking s at
      (λ e.
      page_left (suc f) g k st at false (sym (end_none m s at e) ∙ w) h i
      ∙ ap (follows g k (s ++ t) (length s)) (sym (page_ends m k st s at e)))
      (λ n e.
      let a : at ≡ length s = sym (end_failing m s at n e) ∙ w in
      let none : ends ≡ fails n = sym (asks_nothing s at (omega arith)) ∙ e in
      cc)
      (λ r to e.
      let o = request_goes s at r to e in
      let line = reply_to (asks r to) k st at in
      let p = page_of m (suc k) (state_after st r) s to in
      let place : suc k + p.count ≡ k + (1 + p.count) = omega arith in
      page_asks f k st (s ++ t) at r to (request_appended s t at r to e)
      ∙ ap (joined line)
      (page_join m f g (suc k) (state_after st r) to o.1 (sym (end_asked m s at r to e) ∙ w) (omega (arith, o.0, o.1, within s t)) i)
      ∙ joined_assoc line p (page_of g (suc k + p.count) p.state (s ++ t) (length s))
      ∙ ap (λ (x : ℕ). joined (joined line p) (page_of g x p.state (s ++ t) (length s))) place
      ∙ ap (follows g k (s ++ t) (length s)) (sym (page_asks m k st s at r to e)))

  -- What a journal of whole records replied stays replied, and the replies to what is appended follow, on the state that it left.
  pub replies_appended : (k : ℕ) (st : State) (at : ℕ) → at ≤ length s → Whole s at
      → page_of (length (s ++ t) + 1) k st (s ++ t) at
      ≡ joined (page_of (length s + 1) k st s at) (going_on k (page_of (length s + 1) k st s at) (s ++ t) (length s))
  replies_appended k st at l w =
      page_join (length s + 1) (length (s ++ t) + 1) (length (s ++ t) + 1) k st at l w (omega arith) (omega arith)

-- The replies of a page end where its records end.
pub page_next : (m k : ℕ) (st : State) (s : List ℕ) (at : ℕ) → (page_of m k st s at).next ≡ end_from m s at
page_next zero k st s at = ap (λ (p : Page). p.next) (page_none k st s at) ∙ sym (end_zero s at)
page_next (suc m) k st s at =
    by_asking s at
    (λ e. ap (λ (p : Page). p.next) (page_ends m k st s at e) ∙ sym (end_none m s at e))
    (λ n e. ap (λ (p : Page). p.next) (page_fails m k st s at n e) ∙ sym (end_failing m s at n e))
    (λ r to e.
    ap (λ (p : Page). p.next) (page_asks m k st s at r to e)
    ∙ page_next m (suc k) (state_after st r) s to
    ∙ sym (end_asked m s at r to e))

-- Where only whole records stand no record fails.
none_fails : (m : ℕ) (s : List ℕ) (at : ℕ) → at ≤ length s → end_from m s at ≡ length s → failure_from m s at ≡ []
unfolding failure_from
none_fails zero s at l w = refl
none_fails (suc m) s at l w =
    by_asking s at
    (λ e. rw (e, failure_from) refl)
    (λ n e.
    let a : at ≡ length s = sym (end_failing m s at n e) ∙ w in
    let none : ends ≡ fails n = sym (asks_nothing s at (omega arith)) ∙ e in
    cc)
    (λ r to e. rw (e, failure_from) (none_fails m s to (request_goes s at r to e).1 (sym (end_asked m s at r to e) ∙ w)))

pub whole_unfailing : (s : List ℕ) (at : ℕ) → at ≤ length s → Whole s at → failure_from (length s + 1) s at ≡ []
whole_unfailing s at l w = none_fails (length s + 1) s at l w
