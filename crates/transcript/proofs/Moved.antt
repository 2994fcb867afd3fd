-- Records that stand after others are read as they are alone. Assumes nothing.
use Rattle.std.specs.Prelude.{Option, Some, None}
use Prim.Native.Nat.{ℕ, zero, suc, ◌+◌, ◌-◌, ◌*◌, ◌<◌}
use mathlib.Core.Path.{◌≡◌, refl, sym, ap, ap₂, ◌∙◌}
use mathlib.Core.Bool.{cond}
use mathlib.Core.List.{List, ◌∷◌, ◌++◌}
use lib.Dec.{ltb}
use lib.ListN.{length, take, drop, length-append}
use lib.Seq.{get_or-append-add, drop-append-add}
use native.Mathlib.Omega.{arith}
use borrow.Author.Tests.{lt-ltb, le-ltb}
use Rattle.laws.proofs.Cases.{by_lt, by_eq}
use Rattle.model.specs.declared.Refusal.{Refusal}
use Rattle.model.specs.declared.Title.TheVariants.{UnitWithdrawal, AquiferWithdrawal, UnitTransfer, AquiferTransfer, ReturningWithdrawal}
use Rattle.model.specs.declared.Call.TheVariants.{Grant, Cancel}
use Rattle.record.specs.declared.CallMark.{CallMark}
use Rattle.record.specs.declared.CallMark.TheVariants.{Gu, Ga, Tu, Ta, Gw, Ca}
use Rattle.record.specs.declared.CallAt.{CallAt}
use Rattle.record.specs.declared.CallAt.TheVariants.{End as noCall, Fails as failing, Asks}
use Rattle.record.specs.Bytes.{bits8, bits16, bits32}
use Rattle.record.specs.Record.{call_mark}
use Rattle.record.specs.Calls.{size_of, call_of, call_marked, call_at}
use Rattle.planning.specs.Names.{name_length}
use Rattle.requests.specs.declared.OwnMark.{OwnMark}
use Rattle.requests.specs.declared.OwnMark.TheVariants.{Kp, Gb, Wi}
use Rattle.requests.specs.Records.{own_mark, own_at, own_size, own_is, name_at, own_marked, besides}
use Rattle.transcript.proofs.Watching.{size_alike, watched_alike}
use Rattle.requests.specs.Requests.{Request, keep, back, watch, Asking, ends, fails, asks, asking, request_at, requests_from, requests_of}
use Rattle.transcript.specs.Appended.{end_from, Whole}
use Rattle.transcript.proofs.Alike.{call_end, call_lone, call_marked_lem}
use Rattle.transcript.proofs.Pages.{asked_by}
use Rattle.transcript.proofs.Appending.{by_asking, from_none, from_failing, from_asked, from_zero, end_none, end_failing, end_asked, end_zero, same_requests, request_goes, request_appended, within}

-- What stands at an offset, as it stands n bytes later.
abbrev later_call : ℕ → CallAt → CallAt
later_call n noCall = noCall
later_call n (failing r) = failing r
later_call n (Asks c to) = Asks c (n + to)

abbrev later : ℕ → Asking → Asking
later n ends = ends
later n (fails r) = fails r
later n (asks r to) = asks r (n + to)

module _ (s t : List ℕ) (at : ℕ) where
  -- As many bytes are left.
  left : length (s ++ t) - (length s + at) ≡ length t - at
  left = omega (arith, length-append s t)

  -- Bits are the same.
  byte : (i : ℕ) → bits8 (s ++ t) (length s + at + i) ≡ bits8 t (at + i)
  byte i =
      let p : length s + at + i ≡ length s + (at + i) = omega arith in
      ap (bits8 (s ++ t)) p ∙ get_or-append-add s t (at + i) 0

  byte_next : (i : ℕ) → bits8 (s ++ t) (length s + at + i + 1) ≡ bits8 t (at + i + 1)
  byte_next i =
      let p : length s + at + i + 1 ≡ length s + (at + i + 1) = omega arith in
      ap (bits8 (s ++ t)) p ∙ get_or-append-add s t (at + i + 1) 0

  half : (i : ℕ) → bits16 (s ++ t) (length s + at + i) ≡ bits16 t (at + i)
  half i = λ k. byte i k + 256 * byte_next i k

  word : (i : ℕ) → bits32 (s ++ t) (length s + at + i) ≡ bits32 t (at + i)
  word i =
      let p : length s + at + i + 2 ≡ length s + at + (i + 2) = omega arith in
      let q : at + (i + 2) ≡ at + i + 2 = omega arith in
      let h : bits16 (s ++ t) (length s + at + i + 2) ≡ bits16 t (at + i + 2) = ap (bits16 (s ++ t)) p ∙ half (i + 2) ∙ ap (bits16 t) q in
      λ k. half i k + 65536 * h k

  first : bits8 (s ++ t) (length s + at) ≡ bits8 t at
  first = get_or-append-add s t at 0

  -- A call is the same.
  later_of : (m : CallMark) → call_of m (s ++ t) (length s + at) ≡ call_of m t at
  later_of Gu = λ k. Grant (UnitWithdrawal (byte 2 k) (byte 3 k) (word 4 k))
  later_of Ga = λ k. Grant (AquiferWithdrawal (byte 2 k) (word 3 k))
  later_of Tu = λ k. Grant (UnitTransfer (byte 2 k) (byte 3 k) (word 4 k))
  later_of Ta = λ k. Grant (AquiferTransfer (byte 2 k) (byte 3 k) (word 4 k))
  later_of Gw = λ k. Grant (ReturningWithdrawal (byte 2 k) (byte 3 k) (byte 4 k) (word 5 k))
  later_of Ca = λ k. Cancel (half 2 k)

  later_marked : (m : Option CallMark) → call_marked m (s ++ t) (length s + at) ≡ later_call (length s) (call_marked m t at)
  later_marked None = refl
  later_marked (Some m) =
      let p : length s + at + size_of m ≡ length s + (at + size_of m) = omega arith in
      by_lt (length t - at) (size_of m)
      (λ l. rw (lt-ltb (length t - at) (size_of m) l, lt-ltb (length (s ++ t) - (length s + at)) (size_of m) (omega (arith, left))) refl)
      (λ l.
      rw (le-ltb (length t - at) (size_of m) l, le-ltb (length (s ++ t) - (length s + at)) (size_of m) (omega (arith, left)))
      (ap₂ Asks (later_of m) p))

  marks : call_mark (bits8 (s ++ t) (length s + at)) (bits8 (s ++ t) (length s + at + 1)) ≡ call_mark (bits8 t at) (bits8 t (at + 1))
  marks = ap₂ call_mark first (byte 1)

  later_at : call_at (s ++ t) (length s + at) ≡ later_call (length s) (call_at t at)
  later_at =
      let n = length-append s t in
      by_lt at (length t)
      (λ l. by_eq (length t) (at + 1)
      (λ g. call_lone (s ++ t) (length s + at) (omega arith) ∙ sym (ap (later_call (length s)) (call_lone t at g)))
      (λ g.
      call_marked_lem (s ++ t) (length s + at) (omega arith)
      ∙ ap (λ (x : Option CallMark). call_marked x (s ++ t) (length s + at)) marks
      ∙ later_marked (call_mark (bits8 t at) (bits8 t (at + 1)))
      ∙ sym (ap (later_call (length s)) (call_marked_lem t at (omega arith)))))
      (λ l. call_end (s ++ t) (length s + at) (omega arith) ∙ sym (ap (later_call (length s)) (call_end t at l)))

  -- A mark of a journal alone is the same, and so is a name.
  later_own : own_at (s ++ t) (length s + at) ≡ own_at t at
  later_own = λ k. cond (ltb (left k) 2) None (own_mark (first k) (byte 1 k))

  later_name : name_at (s ++ t) (length s + at + 2) ≡ name_at t (at + 2)
  later_name =
      let p : length s + at + 2 ≡ length s + (at + 2) = omega arith in
      let d : drop (length s + at + 2) (s ++ t) ≡ drop (at + 2) t = ap (λ (x : ℕ). drop x (s ++ t)) p ∙ drop-append-add s t (at + 2) in
      λ k. record { bytes = take name_length (d k) }

  -- Of a record of a journal's own the size is the same, and so is what it asks.
  later_size : (m : OwnMark) → own_size m (s ++ t) (length s + at) ≡ own_size m t at
  later_size Kp = refl
  later_size Gb = refl
  later_size Wi = size_alike (s ++ t) (length s + at) t at (λ i h. byte i)

  later_is : (m : OwnMark) (to : ℕ) → asking (own_is m (length s + to)) (s ++ t) (length s + at) ≡ later (length s) (asking (own_is m to) t at)
  later_is Kp to = λ k. asks (keep (later_name k)) (length s + to)
  later_is Gb to = λ k. asks (back (later_name k)) (length s + to)
  later_is Wi to = λ k. asks (watch (watched_alike (s ++ t) (length s + at) t at (λ i h. byte i) k)) (length s + to)

  later_keeping : (n : Refusal) (m : Option OwnMark)
      → asking (own_marked m (s ++ t) (length s + at) n) (s ++ t) (length s + at) ≡ later (length s) (asking (own_marked m t at n) t at)
  later_keeping n None = refl
  later_keeping n (Some m) =
      let size = own_size m t at in
      let p : length s + at + size ≡ length s + (at + size) = omega arith in
      by_lt (length t - at) size
      (λ l. rw (lt-ltb (length t - at) size l, later_size m, lt-ltb (length (s ++ t) - (length s + at)) size (omega (arith, left))) refl)
      (λ l.
      rw (le-ltb (length t - at) size l, later_size m, le-ltb (length (s ++ t) - (length s + at)) size (omega (arith, left)))
      (ap (λ (to : ℕ). asking (own_is m to) (s ++ t) (length s + at)) p ∙ later_is m (at + size)))

  later_asking : (x : CallAt)
      → asking (besides (later_call (length s) x) (s ++ t) (length s + at)) (s ++ t) (length s + at) ≡ later (length s) (asking (besides x t at) t at)
  later_asking noCall = refl
  later_asking (failing n) =
      ap (λ (m : Option OwnMark). asking (own_marked m (s ++ t) (length s + at) n) (s ++ t) (length s + at)) later_own
      ∙ later_keeping n (own_at t at)
  later_asking (Asks c to) = refl

  -- What is asked is the same.
  pub later_request : request_at (s ++ t) (length s + at) ≡ later (length s) (request_at t at)
  later_request =
      asked_by (s ++ t) (length s + at) (later_call (length s) (call_at t at)) later_at
      ∙ later_asking (call_at t at)
      ∙ sym (ap (later (length s)) (asked_by t at (call_at t at) refl))

-- The requests are the same, and they end as far on.
later_requests : (f : ℕ) (s t : List ℕ) (at : ℕ) → requests_from f (s ++ t) (length s + at) ≡ requests_from f t at
later_requests zero s t at = from_zero (s ++ t) (length s + at) ∙ sym (from_zero t at)
later_requests (suc f) s t at =
    let w = later_request s t at in
    by_asking t at
    (λ e. from_none f (s ++ t) (length s + at) (w ∙ ap (later (length s)) e) ∙ sym (from_none f t at e))
    (λ n e. from_failing f (s ++ t) (length s + at) n (w ∙ ap (later (length s)) e) ∙ sym (from_failing f t at n e))
    (λ r to e.
    from_asked f (s ++ t) (length s + at) r (length s + to) (w ∙ ap (later (length s)) e)
    ∙ ap (λ (l : List Request). r ∷ l) (later_requests f s t to)
    ∙ sym (from_asked f t at r to e))

later_end : (f : ℕ) (s t : List ℕ) (at : ℕ) → end_from f (s ++ t) (length s + at) ≡ length s + end_from f t at
later_end zero s t at = end_zero (s ++ t) (length s + at) ∙ sym (ap (λ (x : ℕ). length s + x) (end_zero t at))
later_end (suc f) s t at =
    let w = later_request s t at in
    by_asking t at
    (λ e. end_none f (s ++ t) (length s + at) (w ∙ ap (later (length s)) e) ∙ sym (ap (λ (x : ℕ). length s + x) (end_none f t at e)))
    (λ n e. end_failing f (s ++ t) (length s + at) n (w ∙ ap (later (length s)) e) ∙ sym (ap (λ (x : ℕ). length s + x) (end_failing f t at n e)))
    (λ r to e.
    end_asked f (s ++ t) (length s + at) r (length s + to) (w ∙ ap (later (length s)) e)
    ∙ later_end f s t to
    ∙ sym (ap (λ (x : ℕ). length s + x) (end_asked f t at r to e)))

-- Records that stand after others ask what they ask alone.
pub requests_alone : (s t : List ℕ) → requests_of (s ++ t) (length s) ≡ requests_of t 0
requests_alone s t =
    let n = length-append s t in
    let p : length s ≡ length s + 0 = omega arith in
    same_requests (length (s ++ t) + 1) (length t + 1) (s ++ t) (length s) (omega arith) (omega arith)
    ∙ ap (requests_from (length t + 1) (s ++ t)) p
    ∙ later_requests (length t + 1) s t 0

-- Two allowances above the number of bytes that are left give the same end.
same_ends : (f g : ℕ) (s : List ℕ) (at : ℕ) → length s - at < f → length s - at < g → end_from f s at ≡ end_from g s at
same_ends zero g s at h i = absurd (omega arith)
same_ends (suc f) zero s at h i = absurd (omega arith)
same_ends (suc f) (suc g) s at h i =
    by_asking s at
    (λ e. end_none f s at e ∙ sym (end_none g s at e))
    (λ n e. end_failing f s at n e ∙ sym (end_failing g s at n e))
    (λ r to e.
    let o = request_goes s at r to e in
    end_asked f s at r to e ∙ same_ends f g s to (omega (arith, o.0, o.1)) (omega (arith, o.0, o.1)) ∙ sym (end_asked g s at r to e))

-- The records go on from where those of the first end.
ends_join : (s t : List ℕ) (m f g at : ℕ) → length (s ++ t) - at < f → length (s ++ t) - at < g
    → end_from f (s ++ t) at ≡ end_from g (s ++ t) (end_from m s at)
ends_join s t zero f g at h i = same_ends f g (s ++ t) at h i ∙ sym (ap (end_from g (s ++ t)) (end_zero s at))
ends_join s t (suc m) zero g at h i = absurd (omega arith)
ends_join s t (suc m) (suc f) g at h i =
    by_asking s at
    (λ e. same_ends (suc f) g (s ++ t) at h i ∙ sym (ap (end_from g (s ++ t)) (end_none m s at e)))
    (λ n e. same_ends (suc f) g (s ++ t) at h i ∙ sym (ap (end_from g (s ++ t)) (end_failing m s at n e)))
    (λ r to e.
    let o = request_goes s at r to e in
    end_asked f (s ++ t) at r to (request_appended s t at r to e)
    ∙ ends_join s t m f g to (omega (arith, o.0, o.1, within s t)) (omega (arith, o.0, o.1, within s t))
    ∙ sym (ap (end_from g (s ++ t)) (end_asked m s at r to e)))

-- Where whole records are appended to whole records, the records are whole.
pub whole_appended : (s t : List ℕ) (at : ℕ) → Whole s at → Whole t 0 → Whole (s ++ t) at
whole_appended s t at w v =
    let n = length-append s t in
    let p : length s ≡ length s + 0 = omega arith in
    ends_join s t (length s + 1) (length (s ++ t) + 1) (length (s ++ t) + 1) at (omega arith) (omega arith)
    ∙ ap (end_from (length (s ++ t) + 1) (s ++ t)) w
    ∙ same_ends (length (s ++ t) + 1) (length t + 1) (s ++ t) (length s) (omega arith) (omega arith)
    ∙ ap (end_from (length t + 1) (s ++ t)) p
    ∙ later_end (length t + 1) s t 0
    ∙ ap (λ (x : ℕ). length s + x) v
    ∙ sym n
