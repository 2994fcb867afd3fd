-- A journal with a record after its description opens as it did whatever bytes are appended. Assumes nothing.
use Rattle.std.specs.Prelude.{Option, Some, None, Ok, Err}
use Prim.Native.Nat.{ℕ, zero, suc, ◌+◌, ◌-◌, ◌≤◌, ◌<◌}
use mathlib.Core.Path.{◌≡◌, refl, sym, ap, ap₂, subst, ◌∙◌}
use mathlib.Core.Bool.{Bool, true, false, cond}
use mathlib.Core.List.{List, [], ◌++◌}
use lib.ListN.{length, get_or, take}
use lib.Seq.{length-take-le, get_or-take, take-append-le}
use native.Mathlib.Omega.{arith}
use borrow.Author.Tests.{lt-ltb, le-ltb}
use Rattle.laws.proofs.Cases.{by_bool, by_lt, by_eq}
use Rattle.laws.proofs.Every.{both}
use Rattle.model.specs.declared.Refusal.{Refusal}
use Rattle.model.specs.declared.Refusal.TheVariants.{UnknownMark}
use Rattle.model.specs.Answers.{Answer}
use Rattle.record.specs.declared.Mark.{Mark}
use Rattle.record.specs.declared.Mark.TheVariants.{Un, Su, Pr, Pd, Af, Ac, Call}
use Rattle.record.specs.Bytes.{bits8}
use Rattle.record.specs.Record.{mark_of}
use Rattle.record.specs.Entries.{Entry, no_entry, failing, stands, whole_entry, entry_marked, entry_at}
use Rattle.book.specs.Reading.{Description, closed_by, last_unit, balance_of, Outcome, read, refused, fault_at, missing, negative, ended, with_entry, clear, entry_verdict, reading_from, reading, opened_as}
use Rattle.book.proofs.Entries.{standing, by_record, reads_end, reads_failing, reads_faulty, reads_clear}
use Rattle.book.proofs.Promises.{accepted_exactly}
use Rattle.planning.specs.declared.Opened.{Opened}
use Rattle.planning.specs.Calls.{opened_state}
use Rattle.requests.specs.Records.{own_mark, own_at}
use Rattle.replay.specs.Journal.{unknown, is_own, ends_there, journal_opened}
use Rattle.transcript.proofs.Cutting.{by_spelling, state_of}
use Rattle.transcript.proofs.Alike.{entry_lone, entry_marked_lem, same_entry}
use Rattle.transcript.proofs.Appending.{same, within, same_own}

-- An outcome that is read ends at an offset.
abbrev EndsAt : ℕ → Outcome → Type 0
EndsAt at (read d p) = at ≡ p
EndsAt at (refused n p) = Unit {0}

fault_ends : (at : ℕ) (n : Refusal) (f : Option ℕ) (rest : Outcome) → EndsAt at rest → EndsAt at (fault_at n f rest)
fault_ends at n (Some j) rest r = tt
fault_ends at n None rest r = r

closed_ends : (at : ℕ) (fault : Answer) (place : ℕ) (rest : Outcome) → EndsAt at rest → EndsAt at (closed_by fault place rest)
closed_ends at (Ok u) place rest r = r
closed_ends at (Err n) place rest r = tt

-- The end of a description that is read is where it ended.
ended_at : (d : Description) (at : ℕ) → EndsAt at (ended d at)
ended_at d at = closed_ends at _ (last_unit d).at _ (fault_ends at _ (missing d) _ (fault_ends at _ (negative (balance_of d) d) (read d at) refl))

-- A list that has the bytes of another below an offset.
record Alike (s t : List ℕ) (P : ℕ) : Type 0 where
  bytes : (i : ℕ) → i < P → get_or t i 0 ≡ get_or s i 0
  within : P ≤ length t

-- Reading on from an offset with a description comes to the offset P, where it ends, and so does the reading of every list that is alike below it.
record Comes (s : List ℕ) (P at : ℕ) (d : Description) : Type 0 where
  onward : at ≤ P
  inside : at ≤ length s → P ≤ length s
  last : Description
  ends : entry_at s P ≡ no_entry
  alike : (t : List ℕ) → Alike s t P → (o : Outcome) → ((h : ℕ) → reading_from (suc h) t P last ≡ o) → (g : ℕ) → length t - at < g
      → reading_from g t at d ≡ o

comes_here : (s : List ℕ) (at : ℕ) (d : Description) → entry_at s at ≡ no_entry → Comes s at at d
comes_here s at d e = record { onward = omega arith; inside = λ h. h; last = d; ends = e; alike = alike }
  where
    alike : (t : List ℕ) → Alike s t at → (o : Outcome) → ((h : ℕ) → reading_from (suc h) t at d ≡ o) → (g : ℕ) → length t - at < g
        → reading_from g t at d ≡ o
    alike t a o k zero h = absurd (omega arith)
    alike t a o k (suc g) h = k g

comes_later : (s : List ℕ) (P at : ℕ) (d : Description) (e : Entry) (to : ℕ) → entry_at s at ≡ stands e to → entry_verdict d e at ≡ clear
    → Comes s P to (with_entry d e) → Comes s P at d
comes_later s P at d e to q v r =
    let o = standing s at e to q in
    record { onward = omega (arith, o.onward, r.onward); inside = λ h. r.inside o.within; last = r.last; ends = r.ends; alike = alike }
  where
    alike : (t : List ℕ) → Alike s t P → (o : Outcome) → ((h : ℕ) → reading_from (suc h) t P r.last ≡ o) → (g : ℕ) → length t - at < g
        → reading_from g t at d ≡ o
    alike t a o k zero h = absurd (omega arith)
    alike t a o k (suc g) h =
        let w = same_entry s t P a.bytes a.within at e to r.onward q in
        let u = standing t at e to w in
        reads_clear g t at d e to w v ∙ r.alike t a o k g (omega (arith, u.onward, u.within))

-- A reading that is accepted comes to where it ends.
comes : (f : ℕ) (s : List ℕ) (P at : ℕ) (d x : Description) → reading_from f s at d ≡ read x P → Comes s P at d
unfolding reading_from
comes zero s P at d x h = cc
comes (suc f) s P at d x h =
    by_record s at d
    (λ q.
    let w : ended d at ≡ read x P = sym (reads_end f s at d q) ∙ h in
    let p : at ≡ P = subst (EndsAt at) w (ended_at d at) in
    subst (λ (y : ℕ). Comes s y at d) p (comes_here s at d q))
    (λ n q. let w = sym (reads_failing f s at d n q) ∙ h in cc)
    (λ e to n p q v. let w = sym (reads_faulty f s at d e to n p q v) ∙ h in cc)
    (λ e to q v. comes_later s P at d e to q v (comes f s P to (with_entry d e) x (sym (reads_clear f s at d e to q v) ∙ h)))

-- No whole record is the end.
whole_stands : {X : Type 0} (s : List ℕ) (at size : ℕ) (e : Entry) → whole_entry s at size e ≡ no_entry → X
whole_stands s at size e q =
    by_lt (length s - at) size
    (λ l. let w = rw (lt-ltb (length s - at) size l) at q in cc)
    (λ l. let w = rw (le-ltb (length s - at) size l) at q in cc)

-- A mark that ends one description ends another.
mark_ends : (s t : List ℕ) (at : ℕ) (m : Option Mark) → entry_marked m s at ≡ no_entry → entry_marked m t at ≡ no_entry
mark_ends s t at (Some Un) q = whole_stands s at 31 _ q
mark_ends s t at (Some Su) q = whole_stands s at 8 _ q
mark_ends s t at (Some Pr) q = whole_stands s at 4 _ q
mark_ends s t at (Some Pd) q = whole_stands s at 4 _ q
mark_ends s t at (Some Af) q = whole_stands s at 34 _ q
mark_ends s t at (Some Ac) q = whole_stands s at 22 _ q
mark_ends s t at (Some Call) q = refl
mark_ends s t at None q = cc

-- Of bytes that begin others.
module _ (s t : List ℕ) (a : Alike s t (length s)) where
  alike_below : (P : ℕ) → P ≤ length s → Alike s t P
  alike_below P h = record { bytes = λ i l. a.bytes i (omega arith); within = omega (arith, a.within) }

  ends_still : (P : ℕ) → P + 2 ≤ length s → entry_at s P ≡ no_entry → entry_at t P ≡ no_entry
  ends_still P h e =
      let m : mark_of (bits8 t P) (bits8 t (P + 1)) ≡ mark_of (bits8 s P) (bits8 s (P + 1)) =
      ap₂ mark_of (a.bytes P (omega arith)) (a.bytes (P + 1) (omega arith)) in
      entry_marked_lem t P (omega (arith, a.within))
      ∙ ap (λ (x : Option Mark). entry_marked x t P) m
      ∙ mark_ends s t P (mark_of (bits8 s P) (bits8 s (P + 1))) (sym (entry_marked_lem s P h) ∙ e)

  -- A description that ends before a mark is read alike.
  reads_still : (d : Description) (P : ℕ) → reading s ≡ read d P → P < length s → reading t ≡ read d P
  reads_still d P e h =
      let c = comes (length s + 1) s P 0 (record { units = []; aquifers = [] }) d e in
      by_eq (length s) (P + 1)
      (λ g. let w = sym (entry_lone s P g) ∙ c.ends in cc)
      (λ g.
      let n = ends_still P (omega arith) c.ends in
      let own : Alike s s P = record { bytes = λ i l. refl; within = omega arith } in
      c.alike t (alike_below P (omega arith)) (ended c.last P) (λ f. reads_end f t P c.last n) (length t + 1) (omega arith)
      ∙ sym (c.alike s own (ended c.last P) (λ f. reads_end f s P c.last c.ends) (length s + 1) (omega arith))
      ∙ e)

-- A mark of a journal alone is unknown in a book.
own_unknown : (a b : ℕ) → is_own (own_mark a b) ≡ true → mark_of a b ≡ None
own_unknown a b h =
    by_spelling a b 75 80 (λ p q. ap₂ mark_of p q)
    (λ e. by_spelling a b 71 66 (λ p q. ap₂ mark_of p q)
    (λ f. by_spelling a b 87 73 (λ p q. ap₂ mark_of p q)
    (λ g. let w : false ≡ true = rw (e, f, g) at h in cc)))

module _ (s : List ℕ) (at : ℕ) (e : is_own (own_at s at) ≡ true) where
  own_within : at + 2 ≤ length s
  own_within =
      by_lt (length s - at) 2
      (λ l. let w : false ≡ true = rw (lt-ltb (length s - at) 2 l) at e in cc)
      (λ l. omega arith)

  own_fails : entry_at s at ≡ failing UnknownMark
  own_fails =
      let l = own_within in
      let m : is_own (own_mark (bits8 s at) (bits8 s (at + 1))) ≡ true = rw (le-ltb (length s - at) 2 (omega arith)) at e in
      entry_marked_lem s at l ∙ ap (λ (x : Option Mark). entry_marked x s at) (own_unknown (bits8 s at) (bits8 s (at + 1)) m)

-- A journal is opened as the bytes before a mark of its own that ends its description, and as it stands where none does.
opens_cut : (s : List ℕ) → ends_there s (opened_state s).answer (opened_state s).place ≡ true
    → journal_opened s ≡ opened_state (take (opened_state s).place s)
opens_cut s e = ap (λ (t : Bool). opened_state (cond t (take (opened_state s).place s) s)) e

opens_all : (s : List ℕ) → ends_there s (opened_state s).answer (opened_state s).place ≡ false → journal_opened s ≡ opened_state s
opens_all s e = ap (λ (t : Bool). opened_state (cond t (take (opened_state s).place s) s)) e

-- A journal that is accepted as a book is opened as one.
opens_read : (s : List ℕ) (d : Description) (P : ℕ) → reading s ≡ read d P → journal_opened s ≡ state_of (read d P)
opens_read s d P e =
    opens_all s (ap (λ (o : Outcome). ends_there s (opened_as o).answer (opened_as o).place) e) ∙ ap state_of e

-- A journal whose description a mark of its own ends is opened as the bytes before that mark.
opens_own : (s : List ℕ) (P : ℕ) → reading s ≡ refused UnknownMark P → is_own (own_at s P) ≡ true → journal_opened s ≡ opened_state (take P s)
opens_own s P e o =
    let p : (opened_state s).place ≡ P = ap (λ (x : Outcome). (opened_as x).place) e in
    opens_cut s (ap (λ (x : Outcome). ends_there s (opened_as x).answer (opened_as x).place) e ∙ o)
    ∙ ap (λ (x : ℕ). opened_state (take x s)) p

module _ (s t : List ℕ) (e : (journal_opened s).answer ≡ Ok tt) where
  appended : Alike s (s ++ t) (length s)
  appended = record { bytes = same s t; within = within s t }

  -- Where a call follows the description.
  after_call : ends_there s (opened_state s).answer (opened_state s).place ≡ false → (journal_opened s).place < length s
      → journal_opened (s ++ t) ≡ journal_opened s
  after_call n h =
      let o = opens_all s n in
      let r = (accepted_exactly s).accepted.0 (sym (ap (λ (x : Opened). x.answer) o) ∙ e) in
      let p : (journal_opened s).place ≡ r.1 = ap (λ (x : Opened). x.place) o ∙ (accepted_exactly s).place r.0 r.1 r.2 in
      let w = reads_still s (s ++ t) appended r.0 r.1 r.2 (omega (arith, p, h)) in
      opens_read (s ++ t) r.0 r.1 w ∙ sym (opens_read s r.0 r.1 r.2)

  -- Where a mark of a journal alone follows it.
  after_own : ends_there s (opened_state s).answer (opened_state s).place ≡ true → journal_opened (s ++ t) ≡ journal_opened s
  after_own n =
      let P = (opened_state s).place in
      let b = both (unknown (opened_state s).answer) (is_own (own_at s P)) n in
      let two : P + 2 ≤ length s = own_within s P b.1 in
      let long : length (take P s) ≡ P = length-take-le P s (omega arith) in
      let cut : Alike (take P s) s (length (take P s)) = record { bytes = λ i l. sym (get_or-take P s i 0 (omega arith)); within = omega arith } in
      let o = opens_cut s n in
      let r = (accepted_exactly (take P s)).accepted.0 (sym (ap (λ (x : Opened). x.answer) o) ∙ e) in
      let c = comes (length (take P s) + 1) (take P s) r.1 0 (record { units = []; aquifers = [] }) r.0 r.2 in
      let inside : r.1 ≤ length (take P s) = c.inside (omega arith) in
      let here : r.1 ≡ P =
      by_lt r.1 P
      (λ l.
      let w = reads_still (take P s) s cut r.0 r.1 r.2 (omega arith) in
      let z : false ≡ true = sym (ap (λ (x : Outcome). unknown (opened_as x).answer) w) ∙ b.0 in
      cc)
      (λ l. omega arith) in
      let own : is_own (own_at (s ++ t) P) ≡ true = ap is_own (same_own s t P two) ∙ b.1 in
      let fails : entry_at (s ++ t) r.1 ≡ failing UnknownMark = ap (entry_at (s ++ t)) here ∙ own_fails (s ++ t) P own in
      let like : Alike (take P s) (s ++ t) r.1 =
      record { bytes = λ i l. same s t i (omega arith) ∙ sym (get_or-take P s i 0 (omega arith)); within = omega (arith, within s t) } in
      let w : reading (s ++ t) ≡ refused UnknownMark r.1 =
      c.alike (s ++ t) like (refused UnknownMark r.1) (λ f. reads_failing f (s ++ t) r.1 c.last UnknownMark fails) (length (s ++ t) + 1) (omega arith) in
      opens_own (s ++ t) P (w ∙ ap (refused UnknownMark) here) own
      ∙ ap opened_state (take-append-le P s t (omega arith))
      ∙ sym o

  -- A journal with a byte after its description opens as it did whatever is appended.
  pub opening_appended : (journal_opened s).place < length s → journal_opened (s ++ t) ≡ journal_opened s
  opening_appended h =
      by_bool (ends_there s (opened_state s).answer (opened_state s).place) after_own (λ n. after_call n h)
