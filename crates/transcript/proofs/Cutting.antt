-- A mark of a journal alone ends the description as a call mark does. Assumes nothing.
use Rattle.std.specs.Prelude.{Option, Some, None, Ok, Err}
use Prim.Native.Nat.{ℕ, zero, suc, ◌+◌, ◌-◌, ◌≤◌, ◌<◌}
use mathlib.Core.Path.{◌≡◌, refl, sym, ap, ap₂, subst, ◌∙◌}
use mathlib.Core.Bool.{Bool, true, false, not, cond}
use mathlib.Core.List.{List, [], ◌∷◌, ◌++◌}
use lib.Dec.{eqb, ltb, leb}
use lib.ListN.{length, get_or, take, length-append, get_or-append}
use lib.Seq.{length-take-le, get_or-take, get_or_at, get_or-append-add}
use native.Mathlib.Omega.{arith}
use borrow.Author.Tests.{eqb-true}
use Rattle.laws.proofs.Cases.{by_bool, by_lt}
use Rattle.laws.proofs.Every.{both}
use Rattle.model.specs.declared.Refusal.{Refusal}
use Rattle.model.specs.declared.Refusal.TheVariants.{Short, UnknownMark, BadDownstream, NegativeFlow, OutOfSequence, TooMany, OutsideValues, FewYears, LargeUnit, BadGauge, NegativeRecharge, Unsound, NoSuchPlace, NoSuchUse, BadVolume, NumbersGiven, EntryFull, NoWater, ReceiverBelow, NotInForce, FlowNeeded, TooLong, FifthName, NoSuchName, BadWindow}
use Rattle.model.specs.declared.Aquifer.{Aquifer}
use Rattle.figures.specs.Recharge.{is_recharged}
use Rattle.runoff.specs.Record.{Year, of_rain, of_gauge}
use Rattle.record.specs.declared.UnitRecord.{UnitRecord}
use Rattle.record.specs.declared.Mark.{Mark}
use Rattle.record.specs.declared.Mark.TheVariants.{Call}
use Rattle.record.specs.Bytes.{bits8}
use Rattle.record.specs.Record.{spells, is_call, mark_of}
use Rattle.record.specs.Described.{summed}
use Rattle.record.specs.Entries.{Entry, unit_entry, soil_entry, year_entry, aquifer_entry, no_entry, stands, entry_marked, entry_at}
use Rattle.record.specs.Fault.{bad_gauge, closing_fault, unit_outside, not_onward, unit_fault, soil_outside, soil_fault, rain_outside, gauged_outside, year_fault, aquifer_outside, aquifer_fault}
use Rattle.model.specs.Answers.{Answer, number}
use Rattle.book.specs.Reading.{Description, closed_by, last_unit, last_sums, balance_of, Outcome, read, refused, fault_at, missing, negative, ended, with_entry, Verdict, clear, faulty, unless_faulty, entry_verdict, reading_from, reading, opened_as}
use Rattle.book.proofs.Entries.{standing, by_record, reads_end, reads_failing, reads_faulty, reads_clear}
use Rattle.planning.specs.declared.Opened.{Opened}
use Rattle.planning.specs.State.{nothing_kept}
use Rattle.planning.specs.Calls.{opened_state}
use Rattle.requests.specs.Records.{own_at}
use Rattle.replay.specs.Journal.{unknown, is_own, ends_there, journal_opened}
use Rattle.replay.proofs.Ending.{past_end}
use Rattle.transcript.proofs.Alike.{entry_end, entry_marked_lem, same_entry}

-- An answer that is no refusal of an unknown mark.
abbrev Other : Answer → Type 0
Other (Ok u) = Unit {0}
Other (Err r) = number r ≡ number UnknownMark → ⊥

-- What holds of both choices holds of the one that is taken.
chosen : {A : Type 0} (P : A → Type 0) (t : Bool) (x y : A) → P x → P y → P (cond t x y)
chosen P true x y p q = p
chosen P false x y p q = q

-- No fault of closing a unit has the number of an unknown mark.
closing_other : (units : ℕ) (u : UnitRecord) → Other (closing_fault units u)
closing_other units u =
    chosen Other (eqb units 0) (Ok tt) _ tt
    (chosen Other (ltb u.years 20) (Err FewYears) _ (λ e. omega arith)
    (chosen Other (bad_gauge u.soils u.years u.sum) (Err BadGauge) (Ok tt) (λ e. omega arith) tt))

-- No fault of a UN has it.
unit_other : (units aquifers : ℕ) (u : UnitRecord) → Other (unit_fault units aquifers u)
unit_other units aquifers u =
    chosen Other (ltb 0 aquifers) (Err OutOfSequence) _ (λ e. omega arith)
    (chosen Other (leb 64 units) (Err TooMany) _ (λ e. omega arith)
    (chosen Other (unit_outside u) (Err OutsideValues) _ (λ e. omega arith)
    (chosen Other (not_onward u.downstream (units + 1)) (Err BadDownstream) (Ok tt) (λ e. omega arith) tt)))

-- No fault of an SU has it.
soil_other : (units aquifers : ℕ) (u : UnitRecord) (cover soil hectares : ℕ) → Other (soil_fault units aquifers u cover soil hectares)
soil_other units aquifers u cover soil hectares =
    chosen Other (ltb 0 aquifers) (Err OutOfSequence) _ (λ e. omega arith)
    (chosen Other (eqb units 0) (Err OutOfSequence) _ (λ e. omega arith)
    (chosen Other (ltb 0 u.years) (Err OutOfSequence) _ (λ e. omega arith)
    (chosen Other (leb 16 u.soils) (Err TooMany) _ (λ e. omega arith)
    (chosen Other (soil_outside cover soil hectares) (Err OutsideValues) _ (λ e. omega arith)
    (chosen Other (ltb 300000 (u.hectares + hectares)) (Err LargeUnit) (Ok tt) (λ e. omega arith) tt)))))

-- No fault of a PR, PD or AF has it.
year_other : (units aquifers : ℕ) (u : UnitRecord) (y : Year) → Other (year_fault units aquifers u y)
year_other units aquifers u (of_rain r) =
    chosen Other (ltb 0 aquifers) (Err OutOfSequence) _ (λ e. omega arith)
    (chosen Other (eqb units 0) (Err OutOfSequence) _ (λ e. omega arith)
    (chosen Other (eqb u.soils 0) (Err OutOfSequence) _ (λ e. omega arith)
    (chosen Other (leb 50 u.years) (Err TooMany) _ (λ e. omega arith)
    (chosen Other (rain_outside r.measure r.depth) (Err OutsideValues) (Ok tt) (λ e. omega arith) tt))))
year_other units aquifers u (of_gauge y) =
    chosen Other (ltb 0 aquifers) (Err OutOfSequence) _ (λ e. omega arith)
    (chosen Other (eqb units 0) (Err OutOfSequence) _ (λ e. omega arith)
    (chosen Other (ltb 0 u.soils) (Err OutOfSequence) _ (λ e. omega arith)
    (chosen Other (leb 50 u.years) (Err TooMany) _ (λ e. omega arith)
    (chosen Other (gauged_outside y) (Err OutsideValues) (Ok tt) (λ e. omega arith) tt))))

-- No fault of an AC has it.
aquifer_other : (aquifers : ℕ) (a : Aquifer) → Other (aquifer_fault aquifers a)
aquifer_other aquifers a =
    chosen Other (leb 32 aquifers) (Err TooMany) _ (λ e. omega arith)
    (chosen Other (aquifer_outside a) (Err OutsideValues) _ (λ e. omega arith)
    (chosen Other (not (is_recharged a)) (Err NegativeRecharge) (Ok tt) (λ e. omega arith) tt))

-- A verdict that is not under that number.
abbrev OtherVerdict : Verdict → Type 0
OtherVerdict clear = Unit {0}
OtherVerdict (faulty n p) = Other (Err n)

-- A verdict by a fault is not under it where neither the fault has it nor what follows is.
unless_other : (fault : Answer) (place : ℕ) (rest : Verdict) → Other fault → OtherVerdict rest → OtherVerdict (unless_faulty fault place rest)
unless_other (Ok u) place rest f r = r
unless_other (Err n) place rest f r = f

-- No verdict on a record is under it.
verdict_other : (d : Description) (e : Entry) (at : ℕ) → OtherVerdict (entry_verdict d e at)
verdict_other d (unit_entry u) at =
    unless_other _ (last_unit d).at _ (closing_other (length d.units) (last_sums d))
    (unless_other _ at clear (unit_other (length d.units) (length d.aquifers) (summed u)) tt)
verdict_other d (soil_entry p) at =
    unless_other _ at clear (soil_other (length d.units) (length d.aquifers) (last_sums d) p.cover p.soil p.hectares) tt
verdict_other d (year_entry y) at = unless_other _ at clear (year_other (length d.units) (length d.aquifers) (last_sums d) y) tt
verdict_other d (aquifer_entry a) at =
    unless_other _ (last_unit d).at _ (closing_other (length d.units) (last_sums d))
    (unless_other _ at clear (aquifer_other (length d.aquifers) a) tt)

-- An outcome that is not refused under that number.
abbrev OtherOutcome : Outcome → Type 0
OtherOutcome (read d at) = Unit {0}
OtherOutcome (refused n p) = Other (Err n)

-- A unit at fault at the end is not refused under it where neither the number is it nor what follows is.
fault_other : (n : Refusal) (f : Option ℕ) (rest : Outcome) → Other (Err n) → OtherOutcome rest → OtherOutcome (fault_at n f rest)
fault_other n (Some j) rest o r = o
fault_other n None rest o r = r

closed_other : (fault : Answer) (place : ℕ) (rest : Outcome) → OtherOutcome rest → Other fault → OtherOutcome (closed_by fault place rest)
closed_other (Ok u) place rest o f = o
closed_other (Err r) place rest o f = f

-- The end of a description is never refused under it.
ended_other : (d : Description) (at : ℕ) → OtherOutcome (ended d at)
ended_other d at =
    closed_other (closing_fault (length d.units) (last_sums d)) (last_unit d).at _
    (fault_other BadDownstream (missing d) _ (λ e. omega arith) (fault_other NegativeFlow (negative (balance_of d) d) (read d at) (λ e. omega arith) tt))
    (closing_other (length d.units) (last_sums d))

-- A list that is cut at an offset: it has the bytes of another below it, and nothing of a description stands at it.
record Cut (s t : List ℕ) (P : ℕ) : Type 0 where
  same : (i : ℕ) → i < P → get_or t i 0 ≡ get_or s i 0
  within : P ≤ length t
  ends : entry_at t P ≡ no_entry

-- Reading on from an offset with a description comes to the offset P, and every list that is cut there ends there with the same description.
record Reaches (s : List ℕ) (P at : ℕ) (d : Description) : Type 0 where
  onward : at ≤ P
  last : Description
  ends : (t : List ℕ) → Cut s t P → (g : ℕ) → length t - at < g → reading_from g t at d ≡ ended last P

-- Reading has reached the offset at which the lists are cut.
ends_here : (s : List ℕ) (at : ℕ) (d : Description) → Reaches s at at d
ends_here s at d = record { onward = omega arith; last = d; ends = ends }
  where
    ends : (t : List ℕ) → Cut s t at → (g : ℕ) → length t - at < g → reading_from g t at d ≡ ended d at
    ends t c zero h = absurd (omega arith)
    ends t c (suc g) h = reads_end g t at d c.ends

-- A record that is kept and ends by that offset is kept in the cut lists too.
ends_later : (s : List ℕ) (P at : ℕ) (d : Description) (e : Entry) (to : ℕ) → entry_at s at ≡ stands e to → entry_verdict d e at ≡ clear
    → Reaches s P to (with_entry d e) → Reaches s P at d
ends_later s P at d e to q v r =
    let o = standing s at e to q in
    record { onward = omega (arith, o.onward, r.onward); last = r.last; ends = ends }
  where
    ends : (t : List ℕ) → Cut s t P → (g : ℕ) → length t - at < g → reading_from g t at d ≡ ended r.last P
    ends t c zero h = absurd (omega arith)
    ends t c (suc g) h =
        let w = same_entry s t P c.same c.within at e to r.onward q in
        let o = standing t at e to w in
        reads_clear g t at d e to w v ∙ r.ends t c g (omega (arith, o.onward, o.within))

-- A reading that is refused with 2 reaches the place of the refusal.
reaches : (f : ℕ) (s : List ℕ) (P at : ℕ) (d : Description) → reading_from f s at d ≡ refused UnknownMark P → Reaches s P at d
unfolding reading_from
reaches zero s P at d h =
    let w : ◌≡◌ {A = Refusal} Short UnknownMark = cc in
    let z : ◌≡◌ {A = ℕ} 1 2 = ap number w in
    absurd (omega arith)
reaches (suc f) s P at d h =
    by_record s at d
    (λ q. absurd (subst OtherOutcome (sym (reads_end f s at d q) ∙ h) (ended_other d at) refl))
    (λ n q.
    let w : refused n at ≡ refused UnknownMark P = sym (reads_failing f s at d n q) ∙ h in
    let p : at ≡ P = cc in
    subst (λ (x : ℕ). Reaches s x at d) p (ends_here s at d))
    (λ e to n p q v.
    let w : refused n p ≡ refused UnknownMark P = sym (reads_faulty f s at d e to n p q v) ∙ h in
    let two : n ≡ UnknownMark = cc in
    absurd (subst OtherVerdict v (verdict_other d e at) (ap number two)))
    (λ e to q v. ends_later s P at d e to q v (reaches f s P to (with_entry d e) (sym (reads_clear f s at d e to q v) ∙ h)))

-- Two lists that are cut at one place read alike.
cut_alike : (s x t : List ℕ) (P : ℕ) → reading s ≡ refused UnknownMark P → Cut s x P → Cut s t P → reading x ≡ reading t
cut_alike s x t P h c k =
    let r = reaches (length s + 1) s P 0 (record { units = []; aquifers = [] }) h in
    r.ends x c (length x + 1) (omega arith) ∙ sym (r.ends t k (length t + 1) (omega arith))

-- Two bytes are the two letters, or they do not spell them.
pub by_spelling : {X : Type 0} (a b x y : ℕ) → (a ≡ x → b ≡ y → X) → (spells a b x y ≡ false → X) → X
by_spelling a b x y p q =
    by_bool (spells a b x y)
    (λ e. let h = both (eqb a x) (eqb b y) e in p (eqb-true a x h.0) (eqb-true b y h.1))
    q

-- A call mark is read as one.
call_marked_lem : (a b : ℕ) → is_call a b ≡ true → mark_of a b ≡ Some Call
call_marked_lem a b h =
    by_spelling a b 71 85 (λ p q. ap₂ mark_of p q)
    (λ e₁. by_spelling a b 71 65 (λ p q. ap₂ mark_of p q)
    (λ e₂. by_spelling a b 84 85 (λ p q. ap₂ mark_of p q)
    (λ e₃. by_spelling a b 84 65 (λ p q. ap₂ mark_of p q)
    (λ e₄. by_spelling a b 71 87 (λ p q. ap₂ mark_of p q)
    (λ e₅. by_spelling a b 67 65 (λ p q. ap₂ mark_of p q)
    (λ e₆.
    let w : false ≡ true = rw (e₁, e₂, e₃, e₄, e₅, e₆) at h in
    let z : ◌≡◌ {A = ℕ} 0 1 = cc in
    absurd (omega arith)))))))

module _ (s : List ℕ) (P : ℕ) (h : P ≤ length s) where
  -- The bytes before an offset, alone, are cut there.
  cut_alone : Cut s (take P s) P
  cut_alone =
      record {
        same = λ i l. get_or-take P s i 0 l;
        within = omega (arith, length-take-le P s h);
        ends = entry_end (take P s) P (omega (arith, length-take-le P s h));
      }

  -- The bytes before an offset with a call mark after them are cut there, whatever follows the mark.
  cut_called : (a b : ℕ) (rest : List ℕ) → is_call a b ≡ true → Cut s (take P s ++ a ∷ b ∷ rest) P
  cut_called a b rest c =
      let n = length-take-le P s h in
      let t : List ℕ = take P s ++ a ∷ b ∷ rest in
      let long : length t ≡ length (take P s) + length (a ∷ b ∷ rest) = length-append (take P s) (a ∷ b ∷ rest) in
      let first : bits8 t P ≡ a = get_or_at (take P s) a (b ∷ rest) 0 P n in
      let second : bits8 t (P + 1) ≡ b = ap (λ (m : ℕ). bits8 t (m + 1)) (sym n) ∙ get_or-append-add (take P s) (a ∷ b ∷ rest) 1 0 in
      record {
        same = λ i l. get_or-append (take P s) (a ∷ b ∷ rest) 0 i (omega (arith, n)) ∙ get_or-take P s i 0 l;
        within = omega (arith, n, long);
        ends =
            entry_marked_lem t P (omega (arith, n, long))
            ∙ ap (λ (m : Option Mark). entry_marked m t P) (ap₂ mark_of first second ∙ call_marked_lem a b c);
      }

-- The state that an outcome opens.
abbrev pub state_of : Outcome → Opened
state_of o = record { answer = (opened_as o).answer; place = (opened_as o).place; state = nothing_kept (opened_as o).balance }

-- The number of an unknown mark is no other refusal's.
is_unknown : (r : Refusal) → number r ≡ 2 → r ≡ UnknownMark
is_unknown Unsound e = absurd (omega arith)
is_unknown Short e = absurd (omega arith)
is_unknown UnknownMark e = refl
is_unknown OutOfSequence e = absurd (omega arith)
is_unknown TooMany e = absurd (omega arith)
is_unknown OutsideValues e = absurd (omega arith)
is_unknown FewYears e = absurd (omega arith)
is_unknown LargeUnit e = absurd (omega arith)
is_unknown BadDownstream e = absurd (omega arith)
is_unknown BadGauge e = absurd (omega arith)
is_unknown NegativeFlow e = absurd (omega arith)
is_unknown NegativeRecharge e = absurd (omega arith)
is_unknown NoSuchPlace e = absurd (omega arith)
is_unknown NoSuchUse e = absurd (omega arith)
is_unknown BadVolume e = absurd (omega arith)
is_unknown NumbersGiven e = absurd (omega arith)
is_unknown EntryFull e = absurd (omega arith)
is_unknown NoWater e = absurd (omega arith)
is_unknown ReceiverBelow e = absurd (omega arith)
is_unknown NotInForce e = absurd (omega arith)
is_unknown FlowNeeded e = absurd (omega arith)
is_unknown TooLong e = absurd (omega arith)
is_unknown FifthName e = absurd (omega arith)
is_unknown NoSuchName e = absurd (omega arith)
is_unknown BadWindow e = absurd (omega arith)

-- An opening that is refused with 2 comes from a reading that is refused with 2 at its place.
unknown_refused : (o : Outcome) → unknown (opened_as o).answer ≡ true → o ≡ refused UnknownMark (opened_as o).place
unknown_refused (read d at) e = let z : ◌≡◌ {A = ℕ} 0 1 = cc in absurd (omega arith)
unknown_refused (refused n p) e = ap (λ (m : Refusal). refused m p) (is_unknown n (eqb-true (number n) 2 e))

-- A journal's own mark ends the description as a call mark does, even if its body is short.
pub own_ends_as_call : (s : List ℕ) → ends_there s (opened_state s).answer (opened_state s).place ≡ true
    → (a b : ℕ) (rest : List ℕ) → is_call a b ≡ true
    → journal_opened s ≡ opened_state (take (opened_state s).place s ++ a ∷ b ∷ rest)
own_ends_as_call s e a b rest c =
    let P = (opened_state s).place in
    let h : reading s ≡ refused UnknownMark P = unknown_refused (reading s) (both (unknown (opened_state s).answer) (is_own (own_at s P)) e).0 in
    let l : P ≤ length s = by_lt (length s) P (λ g. absurd (past_end s (opened_state s).answer P g e)) (λ g. g) in
    ap (λ (t : Bool). opened_state (cond t (take P s) s)) e
    ∙ ap state_of (cut_alike s (take P s) (take P s ++ a ∷ b ∷ rest) P h (cut_alone s P l) (cut_called s P l a b rest c))
