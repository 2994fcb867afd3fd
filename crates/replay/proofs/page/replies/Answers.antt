-- `replay::replies` meets its contract. Assumes nothing.
use Prim.Native.Nat.{ℕ, ◌+◌}
use mathlib.Core.Path.{◌≡◌, refl, sym, ap, ◌∙◌}
use mathlib.Core.Bool.{true, false}
use lib.ListN.{length}
use native.Mathlib.Omega.{arith}
use Rattle.std.proofs.lemmas.Option.{none-some}
use Rattle.basin.proofs.Soundness.{soundness}
use Rattle.register.proofs.Keeping.{accepted_from_sound}
use Rattle.planning.specs.declared.Name.{Name}
use Rattle.planning.specs.declared.State.{State}
use Rattle.planning.specs.Calls.{with_current}
use Rattle.requests.specs.declared.RecordAt.{RecordAt}
use Rattle.requests.specs.Records.{record_at}
use Rattle.requests.specs.Watched.{watched_at, watched_reply}
use Rattle.requests.specs.Requests.{Request, ask, keep, back, watch, state_after, asks, request_at}
use Rattle.text.proofs.Pages.{then, restate}
use Rattle.report.specs.declared.Outcome.{Outcome}
use Rattle.report.specs.Calls.{outcome_line}
use Rattle.listing.proofs.Calling.{called_line}
use Rattle.replies.specs.Reply.{windows_text, reply_text}
use Rattle.replies.proofs.Lines.{windows_said}
use Rattle.replies.proofs.Said.{keeping_said, return_said}
use Rattle.replay.proofs.Records.{asked, keeps_onward, returns_onward, watches_onward}
use Rattle.replay.proofs.Replaying.{Going, going_start, going_on, going_ends, going_fails, going_short, going_full, replied_so}
use Rattle.replay.proofs.Steps.{tested_whole, tested_call, tested_keep, tested_back, refused_state}
use Rattle.replay.proofs.page.replies.Goals as goal
use Rattle.replay.proofs.page.replies.Goals.{After-len-used-in-loop-count, in-Calls+in-Ok, in-Calls+in_default, in-Keeps, in-Returns, then-loop-count-test+else-used-le-PAGE_ROOM, else-loop-count-test}

pub loop-count-init : goal.loop-count-init
loop-count-init c =
    record {
      going = going_start c.args.s.now c.args.from c.args.first c.args.most c.args.state c.new-page.result (omega arith) c.new-page.ensures.empty;
      used = sym c.new-page.ensures.empty;
      tested = record { balance = c.sound-sound.ensures; state = λ answer q. elim (none-some answer q) [ ]; sized = record { kept = omega arith } };
    }

pub returns-in-End : goal.returns-in-End
returns-in-End c =
    let a = c.args in
    let loop = c.loop-count in
    let going = loop.invariant.going in
    let cur = with_current loop.kept loop.balance in
    replied_so _ _ going.text cur loop.next loop.count false _ c.new-page.ensures going.put (omega arith) c.len.ensures
    (going_ends a.s.now a.from a.first a.most a.state cur loop.next loop.count going c.loop-count-test.true (omega (arith, loop.invariant.used, c.if-used-le-PAGE_ROOM.true)) (asked a.s.now loop.next _ _ c.in-End.ensures refl))
    c.replayed.ensures

pub returns-in-Fails : goal.returns-in-Fails
returns-in-Fails c =
    let a = c.args in
    let loop = c.loop-count in
    let going = loop.invariant.going in
    let cur = with_current loop.kept loop.balance in
    replied_so _ _ _ cur loop.next loop.count false _ c.new-page.ensures (then going.put c.refused_line.ensures)
    (omega arith) c.len-in-Fails.ensures
    (going_fails a.s.now a.from a.first a.most a.state cur loop.next loop.count going c.loop-count-test.true (omega (arith, loop.invariant.used, c.if-used-le-PAGE_ROOM.true)) _ (asked a.s.now loop.next _ _ c.in-Fails.ensures refl))
    c.replayed-in-Fails.ensures

pub called-outcome-requires : goal.called-outcome-requires
called-outcome-requires c = λ e. (soundness _ (accepted_from_sound c.loop-count.balance c.in-Calls.call (sym c.decide-answer.ensures ∙ e))).few_titles

pub overflow_add-next : goal.overflow_add-next
overflow_add-next c = omega (arith, keeps_onward c.args.s.now c.loop-count.next _ c.in-Keeps.ensures _ refl)

pub name_at-name-requires : goal.name_at-name-requires
name_at-name-requires c = omega (arith, keeps_onward c.args.s.now c.loop-count.next _ c.in-Keeps.ensures _ refl)

pub overflow_add-next-in-Returns : goal.overflow_add-next-in-Returns
overflow_add-next-in-Returns c = omega (arith, returns_onward c.args.s.now c.loop-count.next _ c.in-Returns.ensures _ refl)

pub name_at-name-requires-in-Returns : goal.name_at-name-requires-in-Returns
name_at-name-requires-in-Returns c = omega (arith, returns_onward c.args.s.now c.loop-count.next _ c.in-Returns.ensures _ refl)

-- One request more is answered.
module _ (c : After-len-used-in-loop-count) where
  abbrev cur : State
  cur = with_current c.loop-count.kept c.loop-count.balance

  on : (r : Request) (to : ℕ) → request_at c.args.s.now c.loop-count.next ≡ asks r to → (o : Outcome) → c.match-record_at.outcome.0 ≡ o
      → outcome_line (c.args.first + c.loop-count.count) o ≡ reply_text (c.args.first + c.loop-count.count) cur r
      → (next : State) → next ≡ state_after cur r
      → Going c.args.s.now c.args.from c.args.first c.args.most c.args.state c.new-page.result c.put.new.page next to (c.loop-count.count + 1)
  on r to e o q line next f =
      let loop = c.loop-count in
      let text =
      ap (λ (n : ℕ). outcome_line (n + loop.count) c.match-record_at.outcome.0) c.from-in-loop-count.ensures
      ∙ ap (outcome_line (c.args.first + loop.count)) q
      ∙ line in
      going_on c.args.s.now c.args.from c.args.first c.args.most c.args.state cur loop.next loop.count loop.invariant.going c.loop-count-test.true (omega (arith, loop.invariant.used, c.if-used-le-PAGE_ROOM.true)) r to e next
      (restate c.put.ensures text) f

pub loop-count-preserved : goal.loop-count-preserved
loop-count-preserved c =
    let loop = c.loop-count in
    let tested = loop.invariant.tested in
    let cur = with_current loop.kept loop.balance in
    let k = c.args.first + loop.count in
    let asking = λ (r : RecordAt) (e : r ≡ record_at c.args.s.now loop.next). asked c.args.s.now loop.next r r e refl in
    elim c.match-record_at.branch [
      | in-Calls+in-Ok w ↦
          let call = w.in-Calls.call in
          let line = called_line k loop.balance call _ w.decide-answer.ensures in
          let next = ap (with_current loop.kept) w.perform-balance.ensures.value in
          rw (w.whole-is, w.kept-is, w.balance-is, w.outcome-is)
          (record {
            going = on c (ask call) _ (asking _ w.in-Calls.ensures) _ (ap (λ (p : Outcome × ℕ). p.0) w.outcome-is ∙ w.called-outcome.ensures) line _ next;
            used = c.len-used-in-loop-count.ensures;
            tested = tested_call _ _ cur tested _ call next w.perform-balance.ensures.b_value;
          })
      | in-Calls+in_default w ↦
          let call = w.in-Calls.call in
          let line = called_line k loop.balance call _ w.decide-answer.ensures in
          let next = refused_state cur call _ _ w.decide-answer.ensures w.in_default.is in
          rw (w.whole-is, w.kept-is, w.balance-is, w.outcome-is)
          (record {
            going = on c (ask call) _ (asking _ w.in-Calls.ensures) _ (ap (λ (p : Outcome × ℕ). p.0) w.outcome-is ∙ w.called-outcome.ensures) line _ next;
            used = c.len-used-in-loop-count.ensures;
            tested = tested;
          })
      | in-Keeps w ↦
          let name = w.name_at-name.result in
          let request = asking _ w.in-Keeps.ensures ∙ ap (λ (n : Name). asks (keep n) w.in-Keeps.to) (sym w.name_at-name.ensures) in
          let line = sym (keeping_said k cur name) in
          let next = w.keeping.ensures.state in
          rw (w.whole-is, w.kept-is, w.balance-is, w.outcome-is)
          (record {
            going = on c (keep name) _ request _ (ap (λ (p : Outcome × ℕ). p.0) w.outcome-is ∙ w.keeping.ensures.said) line _ next;
            used = c.len-used-in-loop-count.ensures;
            tested = tested_keep _ _ cur (tested_whole _ _ cur tested _ w.keeping.ensures.known) _ name next;
          })
      | in-Returns w ↦
          let name = w.name_at-name-in-Returns.result in
          let request = asking _ w.in-Returns.ensures ∙ ap (λ (n : Name). asks (back n) w.in-Returns.to) (sym w.name_at-name-in-Returns.ensures) in
          let line = sym (return_said k cur name) in
          let next = w.returning.ensures.state in
          rw (w.whole-is, w.kept-is, w.balance-is, w.outcome-is)
          (record {
            going = on c (back name) _ request _ (ap (λ (p : Outcome × ℕ). p.0) w.outcome-is ∙ w.returning.ensures.said) line _ next;
            used = c.len-used-in-loop-count.ensures;
            tested = tested_back _ _ cur (tested_whole _ _ cur tested _ w.returning.ensures.known) _ name next;
          })
    ]

-- The moving window is within the journal, and its lines have room.
pub watched-requires : goal.watched-requires
watched-requires c =
    let loop = c.loop-count in
    let going = loop.invariant.going in
    let w = watches_onward c.args.s.now loop.next _ c.in-Watches.ensures _ refl in
    let size = ap length c.new-page.ensures.bytes in
    (omega (arith, w.0, w.1), omega (arith, loop.invariant.used, c.if-used-le-PAGE_ROOM.true, going.put.put.short, going.put.put.place, going.put.size, size, c.fits-out))

-- It leaves the state.
pub loop-count-preserved-in-Watches : goal.loop-count-preserved-in-Watches
loop-count-preserved-in-Watches c =
    let a = c.args in
    let loop = c.loop-count in
    let cur = with_current loop.kept loop.balance in
    let w = watched_at a.s.now loop.next in
    let request = asked a.s.now loop.next _ _ c.in-Watches.ensures refl in
    let text = ap (λ (n : ℕ). windows_text (n + loop.count) (watched_reply w)) c.from.ensures ∙ windows_said (a.first + loop.count) cur w in
    record {
      going =
          going_on a.s.now a.from a.first a.most a.state cur loop.next loop.count loop.invariant.going c.loop-count-test.true
          (omega (arith, loop.invariant.used, c.if-used-le-PAGE_ROOM.true)) (watch w) _ request cur (restate c.watched.ensures text) refl;
      used = c.len-used.ensures;
      tested = loop.invariant.tested;
    }

pub returns : goal.returns
returns c =
    let a = c.args in
    let loop = c.loop-count in
    let going = loop.invariant.going in
    let cur = with_current loop.kept loop.balance in
    replied_so _ _ going.text cur loop.next loop.count true _ c.new-page.ensures going.put (omega arith) c.len-2.ensures
    (elim c.loop-count-test.branch [
      | then-loop-count-test+else-used-le-PAGE_ROOM w ↦
          going_short a.s.now a.from a.first a.most a.state cur loop.next loop.count going (omega (arith, loop.invariant.used, w.if-used-le-PAGE_ROOM.false))
      | else-loop-count-test w ↦ going_full a.s.now a.from a.first a.most a.state cur loop.next loop.count going (omega (arith, w.loop-count-test.false))
    ])
    c.replayed-2.ensures
