-- The loop over the records of a page: the replies written so far and those of the records that are left are the whole page. Assumes nothing.
use Prim.Native.Nat.{ℕ, zero, suc, ◌+◌, ◌-◌, ◌≤◌, ◌<◌}
use mathlib.Core.Path.{◌≡◌, refl, sym, ap, ◌∙◌}
use mathlib.Core.Bool.{Bool, true, false}
use mathlib.Core.List.{List, [], ◌++◌, append-nil, append_assoc}
use lib.ListN.{length}
use native.Mathlib.Nat.{le_refl}
use native.Mathlib.Omega.{arith}
use borrow.Author.Tests.{lt-ltb, le-ltb}
use Rattle.model.specs.Answers.{number}
use Rattle.std.proofs.Common.{MutBor}
use Rattle.planning.specs.declared.State.{State}
use Rattle.requests.specs.Requests.{Request, state_after, Asking, ends, fails, asks, request_at}
use Rattle.text.specs.declared.Page.{Page as Sheet}
use Rattle.text.specs.Text.{Written}
use Rattle.text.specs.Page.{Fits, IsEmptyOver, Puts}
use Rattle.text.proofs.Pages.{then, still, on_buffer}
use Rattle.report.specs.Lines.{refused_line}
use Rattle.replay.specs.declared.Replayed.{Replayed}
use Rattle.model.specs.declared.Refusal.{Refusal}
use Rattle.replies.specs.Reply.{reply_text}
use Rattle.replay.specs.Page.{Page, reply_to, record_reply, joined, onward, no_record, page_of, page_room, page_within, Replied, replayed_so}

-- The records before, by the text of their replies and their number, and then a page.
abbrev pub after : List ℕ → ℕ → Page → Page
after text i q = record { text = text ++ q.text; state = q.state; next = q.next; count = i + q.count; more = q.more }

-- A page by what is asked at its start.
module _ (m k : ℕ) (st : State) (s : List ℕ) (at : ℕ) where
  page_by : (x : Asking) → request_at s at ≡ x
      → page_of (suc m) k st s at ≡ onward (reply_to x k st at) (page_of m (suc k) (reply_to x k st at).state s (reply_to x k st at).next)
  unfolding page_of
  page_by x e = λ i. onward (reply_to (e i) k st at) (page_of m (suc k) (reply_to (e i) k st at).state s (reply_to (e i) k st at).next)

  pub page_ends : request_at s at ≡ ends → page_of (suc m) k st s at ≡ reply_to ends k st at
  page_ends e = page_by ends e

  pub page_fails : (n : Refusal) → request_at s at ≡ fails n → page_of (suc m) k st s at ≡ reply_to (fails n) k st at
  page_fails n e = page_by (fails n) e

  pub page_asks : (r : Request) (to : ℕ) → request_at s at ≡ asks r to
      → page_of (suc m) k st s at ≡ joined (reply_to (asks r to) k st at) (page_of m (suc k) (state_after st r) s to)
  page_asks r to e = page_by (asks r to) e

pub page_none : (k : ℕ) (st : State) (s : List ℕ) (at : ℕ) → page_of 0 k st s at ≡ no_record st at
unfolding page_of
page_none k st s at = refl

room_none : (u k : ℕ) (st : State) (s : List ℕ) (at : ℕ) → page_within 0 u k st s at ≡ no_record st at
unfolding page_within
room_none u k st s at = refl

-- A page by the room that is left: nothing more without it, and else a record and then the others, by what is asked.
pub no_room : (m u k : ℕ) (st : State) (s : List ℕ) (at : ℕ) → page_room < u → page_within m u k st s at ≡ no_record st at
unfolding page_within
no_room zero u k st s at h = refl
no_room (suc m) u k st s at h = rw (lt-ltb page_room u h) refl

module _ (m u k : ℕ) (st : State) (s : List ℕ) (at : ℕ) (h : u ≤ page_room) where
  pub room_by : (x : Asking) → request_at s at ≡ x → page_within (suc m) u k st s at
      ≡ onward (reply_to x k st at) (page_within m (u + length (reply_to x k st at).text) (suc k) (reply_to x k st at).state s (reply_to x k st at).next)
  unfolding page_within
  room_by x e =
      rw (le-ltb page_room u h)
      (λ i. onward (reply_to (e i) k st at) (page_within m (u + length (reply_to (e i) k st at).text) (suc k) (reply_to (e i) k st at).state s (reply_to (e i) k st at).next))

-- A page of one record is the reply to it.
one_by : (k : ℕ) (st : State) (s : List ℕ) (at : ℕ) (x : Asking)
    → onward (reply_to x k st at) (page_within 0 (0 + length (reply_to x k st at).text) (suc k) (reply_to x k st at).state s (reply_to x k st at).next) ≡ reply_to x k st at
unfolding page_within
one_by k st s at ends = refl
one_by k st s at (fails n) = refl
one_by k st s at (asks r to) = λ j. record { text = append-nil (reply_text k st r) j; state = state_after st r; next = to; count = 1; more = true }

pub one_record : (k : ℕ) (st : State) (s : List ℕ) (at : ℕ) → page_within 1 0 k st s at ≡ record_reply k st s at
one_record k st s at = room_by 0 0 k st s at (omega arith) (request_at s at) refl ∙ one_by k st s at (request_at s at)

-- One reply more stands before the rest.
after_joined : (text line : List ℕ) (i : ℕ) (st : State) (to : ℕ) (q : Page)
    → after (text ++ line) (i + 1) q ≡ after text i (joined (record { text = line; state = st; next = to; count = 1; more = true }) q)
after_joined text line i st to q =
    let more : i + 1 + q.count ≡ i + (1 + q.count) = omega arith in
    λ j. record { text = append_assoc text line q.text j; state = q.state; next = q.next; count = more j; more = q.more }

-- A text that was put has as many bytes as it has.
exactly : {m : ℕ} {old new : Sheet} {text : List ℕ} → Puts m old text new → Puts (length text) old text new
exactly w = record {
  same = w.same;
  size = w.size;
  put = record { short = le_refl _; fits = w.put.fits; buffer = w.put.buffer; place = w.put.place };
}

-- The loop after i records.
pub record Going (s : List ℕ) (from first most : ℕ) (start : State) (old sheet : Sheet) (cur : State) (at i : ℕ) : Type 0 where
  pub text : List ℕ
  pub few : i ≤ most
  pub put : Puts (length text) old text sheet
  pub all : after text i (page_within (most - i) sheet.len (first + i) cur s at) ≡ page_within most 0 first start s from

pub going_start : (s : List ℕ) (from first most : ℕ) (start : State) (sheet : Sheet) → Fits 0 sheet → sheet.len ≡ 0
    → Going s from first most start sheet sheet start from 0
going_start s from first most start sheet h e =
    let m : most - 0 ≡ most = omega arith in
    let k : first + 0 ≡ first = omega arith in
    let q = page_within most 0 first start s from in
    let c : 0 + q.count ≡ q.count = omega arith in
    record {
      text = [];
      few = omega arith;
      put = still sheet h;
      all = (λ j. after [] 0 (page_within (m j) (e j) (k j) start s from))
          ∙ (λ j. record { text = q.text; state = q.state; next = q.next; count = c j; more = q.more });
    }

module _ (s : List ℕ) (from first most : ℕ) (start : State) {old sheet : Sheet} (cur : State) (at i : ℕ)
    (g : Going s from first most start old sheet cur at i) where
  -- The page that is left where there is room, with one record taken off, by what is asked.
  left : i < most → sheet.len ≤ page_room → (x : Asking) → request_at s at ≡ x
      → after g.text i (onward (reply_to x (first + i) cur at) (page_within (most - (i + 1)) (sheet.len + length (reply_to x (first + i) cur at).text)
      (suc (first + i)) (reply_to x (first + i) cur at).state s (reply_to x (first + i) cur at).next))
      ≡ page_within most 0 first start s from
  left h room x e =
      let c : suc (most - (i + 1)) ≡ most - i = omega arith in
      ap (after g.text i) (sym (room_by (most - (i + 1)) sheet.len (first + i) cur s at room x e))
      ∙ ap (λ (n : ℕ). after g.text i (page_within n sheet.len (first + i) cur s at)) c
      ∙ g.all

  -- One record more, whatever its reply is.
  pub going_on : i < most → sheet.len ≤ page_room → (r : Request) (to : ℕ) → request_at s at ≡ asks r to → {new : Sheet} → (next : State) → {m : ℕ}
      → Puts m sheet (reply_text (first + i) cur r) new → next ≡ state_after cur r → Going s from first most start old new next to (i + 1)
  going_on h room r to e {new = new} next w f =
      let k : first + (i + 1) ≡ suc (first + i) = omega arith in
      let line = reply_text (first + i) cur r in
      let u : new.len ≡ sheet.len + length line = w.put.place in
      record {
        text = g.text ++ line;
        few = omega arith;
        put = exactly (then g.put w);
        all =
            (λ j. after (g.text ++ line) (i + 1) (page_within (most - (i + 1)) (u j) (k j) (f j) s to))
            ∙ after_joined g.text line i (state_after cur r) to
            (page_within (most - (i + 1)) (sheet.len + length line) (suc (first + i)) (state_after cur r) s to)
            ∙ left h room (asks r to) e;
      }

  -- The records end here.
  pub going_ends : i < most → sheet.len ≤ page_room → request_at s at ≡ ends
      → record { text = g.text; state = cur; next = at; count = i; more = false } ≡ page_within most 0 first start s from
  going_ends h room e =
      let c : i ≡ i + 0 = omega arith in
      (λ j. record { text = sym (append-nil g.text) j; state = cur; next = at; count = c j; more = false }) ∙ left h room ends e

  -- The record here fails.
  pub going_fails : i < most → sheet.len ≤ page_room → (n : Refusal) → request_at s at ≡ fails n
      → record { text = g.text ++ refused_line (number n) at; state = cur; next = at; count = i; more = false } ≡ page_within most 0 first start s from
  going_fails h room n e =
      let c : i ≡ i + 0 = omega arith in
      (λ j. record { text = g.text ++ refused_line (number n) at; state = cur; next = at; count = c j; more = false }) ∙ left h room (fails n) e

  -- No record more is replayed.
  stopped : page_within (most - i) sheet.len (first + i) cur s at ≡ no_record cur at
      → record { text = g.text; state = cur; next = at; count = i; more = true } ≡ page_within most 0 first start s from
  stopped e =
      let c : i ≡ i + 0 = omega arith in
      (λ j. record { text = sym (append-nil g.text) j; state = cur; next = at; count = c j; more = true }) ∙ ap (after g.text i) (sym e) ∙ g.all

  -- The longest reply might not fit.
  pub going_short : page_room < sheet.len
      → record { text = g.text; state = cur; next = at; count = i; more = true } ≡ page_within most 0 first start s from
  going_short h = stopped (no_room (most - i) sheet.len (first + i) cur s at h)

  -- So many records were replayed.
  pub going_full : most ≤ i → record { text = g.text; state = cur; next = at; count = i; more = true } ≡ page_within most 0 first start s from
  going_full h =
      let z : most - i ≡ 0 = omega arith in
      stopped (ap (λ (n : ℕ). page_within n sheet.len (first + i) cur s at) z ∙ room_none sheet.len (first + i) cur s at)

-- The same page, given in another way.
pub replied_as : {p q : Page} {old new : List ℕ} {r : Replayed} → p ≡ q → Replied p old new r → Replied q old new r
replied_as e w = rw (← e) w

-- A text in a buffer is no longer than the buffer.
all_of : {m at n : ℕ} {old text new : List ℕ} → Written m old at text new n → {size : ℕ} → length old ≡ size → Written size old at text new n
all_of w e = record { short = omega (arith, e, w.fits); fits = w.fits; buffer = w.buffer; place = w.place }

-- With a page's text put on an empty sheet, what the code hands back is what the page gives.
pub replied_so : {buffer : MutBor (List ℕ)} {old new : Sheet} {m : ℕ} (n : ℕ) (q : Page) (text : List ℕ) (st : State) (next count : ℕ) (more : Bool) (r : Replayed)
    → IsEmptyOver buffer old → Puts m old text new → length buffer.now ≡ 1064960 → n ≡ new.len
    → record { text = text; state = st; next = next; count = count; more = more } ≡ q → r ≡ replayed_so st next count n more
    → Replied q buffer.now new.out.now r
replied_so n q text st next count more r none w size l e f =
    replied_as e (rw (f, l) (record { text = all_of (on_buffer w none) size; state = refl; next = refl; count = refl; more = refl }))
