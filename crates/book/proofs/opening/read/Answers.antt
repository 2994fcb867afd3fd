-- `book::read` meets its contract. Assumes nothing.
use Rattle.std.proofs.Common.{◌≡◌, ◌∙◌, length, Ok, Err, arith, rules}
use Rattle.record.specs.Record.{no_sums}
use Rattle.record.proofs.Clean.{closing_clean}
use Rattle.book.specs.declared.Next.TheVariants.{Ends, Opens, Grows, Adds}
use Rattle.book.specs.Reading.{last_sums}
use Rattle.book.specs.Steps.{next}
use Rattle.book.proofs.Following.{reached_start, reached_ends, reached_refused, opens_onward, grows_onward, adds_onward, opens_closing, reached_opens, reached_grows, adds_room, reached_adds, reached_ready}
use Rattle.book.proofs.opening.read.Goals as goal

pub loop-b-init : goal.loop-b-init
loop-b-init c =
    let z : c.default-p.result ≡ record { units = 0; aquifers = 0; «open» = no_sums } = search rules in
    rw (c.fresh-b.ensures, z) (reached_start c.args.s.now)

pub returns-in_err-next : goal.returns-in_err-next
returns-in_err-next c =
    let l = c.loop-b in
    let e : next c.args.s.now l.at l.p.open l.p.units l.p.aquifers ≡ Err c.in_err-next.field-0.0 = search rules in
    let r : c.from_residual.result ≡ Err c.in_err-next.field-0.0 = search rules in
    rw r (reached_refused c.args.s.now _ _ _ _ _ l.invariant c.in_err-next.field-0.0 e)

pub ended-requires : goal.ended-requires
ended-requires c = reached_ready c.args.s.now _ _ _ _ _ c.loop-b.invariant

pub returns-in-Ends : goal.returns-in-Ends
returns-in-Ends c =
    let l = c.loop-b in
    let e : next c.args.s.now l.at l.p.open l.p.units l.p.aquifers ≡ Ok Ends = search rules in
    c.ended.ensures ∙ reached_ends c.args.s.now _ _ _ _ _ l.invariant e

pub store-requires-clause-closed : goal.store-requires-clause-closed
store-requires-clause-closed c = λ h.
    let l = c.loop-b in
    let r = l.invariant in
    let e : next c.args.s.now l.at l.p.open l.p.units l.p.aquifers ≡ Ok (Opens c.in-Opens.unit c.in-Opens.to) = search rules in
    let f = opens_closing c.args.s.now _ _ _ _ _ r _ _ e in
    rw r.last (closing_clean (length r.description.units) (last_sums r.description) f (omega (arith, r.count)) r.good.sane)

pub bounds-b-p : goal.bounds-b-p
bounds-b-p c =
    let l = c.loop-b in
    let e : next c.args.s.now l.at l.p.open l.p.units l.p.aquifers ≡ Ok (Adds c.in-Adds.aquifer c.in-Adds.to) = search rules in
    adds_room c.args.s.now _ _ _ _ _ l.invariant _ _ e

pub loop-b-smaller-in-Opens : goal.loop-b-smaller-in-Opens
loop-b-smaller-in-Opens c =
    let l = c.loop-b in
    let e : next c.args.s.now l.at l.p.open l.p.units l.p.aquifers ≡ Ok (Opens c.in-Opens.unit c.in-Opens.to) = search rules in
    opens_onward c.args.s.now _ _ _ _ _ l.invariant _ _ e

pub loop-b-smaller-in-Grows : goal.loop-b-smaller-in-Grows
loop-b-smaller-in-Grows c =
    let l = c.loop-b in
    let e : next c.args.s.now l.at l.p.open l.p.units l.p.aquifers ≡ Ok (Grows c.in-Grows.unit c.in-Grows.to) = search rules in
    grows_onward c.args.s.now _ _ _ _ _ l.invariant _ _ e

pub loop-b-smaller : goal.loop-b-smaller
loop-b-smaller c =
    let l = c.loop-b in
    let e : next c.args.s.now l.at l.p.open l.p.units l.p.aquifers ≡ Ok (Adds c.in-Adds.aquifer c.in-Adds.to) = search rules in
    adds_onward c.args.s.now _ _ _ _ _ l.invariant _ _ e

pub loop-b-preserved-in-Opens : goal.loop-b-preserved-in-Opens
loop-b-preserved-in-Opens c =
    let l = c.loop-b in
    let e : next c.args.s.now l.at l.p.open l.p.units l.p.aquifers ≡ Ok (Opens c.in-Opens.unit c.in-Opens.to) = search rules in
    rw c.store.ensures (reached_opens c.args.s.now _ _ _ _ _ l.invariant _ _ e)

pub loop-b-preserved-in-Grows : goal.loop-b-preserved-in-Grows
loop-b-preserved-in-Grows c =
    let l = c.loop-b in
    let e : next c.args.s.now l.at l.p.open l.p.units l.p.aquifers ≡ Ok (Grows c.in-Grows.unit c.in-Grows.to) = search rules in
    reached_grows c.args.s.now _ _ _ _ _ l.invariant _ _ e

pub loop-b-preserved : goal.loop-b-preserved
loop-b-preserved c =
    let l = c.loop-b in
    let e : next c.args.s.now l.at l.p.open l.p.units l.p.aquifers ≡ Ok (Adds c.in-Adds.aquifer c.in-Adds.to) = search rules in
    reached_adds c.args.s.now _ _ _ _ _ l.invariant _ _ e
