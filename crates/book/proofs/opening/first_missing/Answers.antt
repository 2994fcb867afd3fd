-- `book::first_missing` meets its contract. Assumes nothing.
use Rattle.std.proofs.Common.{◌≡◌, ap, sym, ◌<◌, take, length-take, arith}
use Rattle.std.proofs.lemmas.List.{get_or-take}
use borrow.Author.Count.{below_none, below_more}
use borrow.Author.Tests.{lt-ltb, le-ltb}
use Rattle.model.specs.View.{view_of}
use Rattle.model.specs.declared.Unit.{Unit}
use Rattle.model.specs.Fresh.{empty_unit}
use Rattle.river.specs.Flow.{downstream}
use Rattle.river.specs.Units.{units_of}
use Rattle.river.proofs.Firsts.{first_at, first_nothing}
use Rattle.book.proofs.opening.first_missing.Goals as goal
use Rattle.book.proofs.opening.first_missing.Goals.{In-loop-i}

pub loop-i-init : goal.loop-i-init
loop-i-init c = below_none _

-- A counted unit is the balance's.
counted : (c : In-loop-i) → downstream (units_of (take c.args.b.now.unit_count c.args.b.now.units)) c.loop-i.i ≡ downstream (view_of c.args.b.now) c.loop-i.i
counted c =
    let b = c.args.b.now in
    ap (λ (u : Unit). u.downstream) (get_or-take b.unit_count b.units c.loop-i.i empty_unit (omega (arith, length-take b.unit_count b.units)))

pub loop-i-preserved : goal.loop-i-preserved
loop-i-preserved c =
    below_more _ _ c.loop-i.invariant (rw (counted (goal.at.loop-i-preserved c).In-loop-i) at (rw c.from.ensures at c.if-b-from.false))

pub returns-then-b-from : goal.returns-then-b-from
returns-then-b-from c =
    let v = view_of c.args.b.now in
    let i = c.loop-i.i in
    let h : i < v.units = omega (arith, length-take v.units c.args.b.now.units) in
    sym (first_at _ v.units i h (λ k a. le-ltb v.units (downstream v k) (c.loop-i.invariant k a))
    (lt-ltb v.units (downstream v i) (rw (counted (goal.at.returns-then-b-from c).In-loop-i) at (rw c.from.ensures at c.if-b-from.true))))

pub returns-after-loop-i : goal.returns-after-loop-i
returns-after-loop-i c =
    let v = view_of c.args.b.now in
    sym (first_nothing _ v.units (λ k h. le-ltb v.units (downstream v k)
    (c.loop-i.invariant k (omega (arith, length-take v.units c.args.b.now.units)))))
