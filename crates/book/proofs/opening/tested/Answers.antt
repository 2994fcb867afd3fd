-- `book::tested` meets its contract. Assumes nothing.
use Rattle.std.proofs.Common.{refl, sym, ◌∙◌, take, arith}
use Rattle.river.specs.Units.{units_of}
use Rattle.model.specs.View.{view_of}
use Rattle.river.proofs.Units.{SameUnits, counted_units, ready_same, negative_same}
use Rattle.book.proofs.Ending.{ready_of, missing_below, negative_below, tested_missing, tested_negative, tested_accepted}
use Rattle.book.proofs.opening.tested.Goals as goal
use Rattle.book.proofs.opening.tested.Goals.{In_default}

-- The counted units are those of the balance.
same : (c : In_default) → SameUnits (view_of c.args.b) (units_of (take c.args.b.unit_count c.args.b.units))
same c = counted_units (view_of c.args.b) c.args.b.units (omega (arith, c.requires.few)) (λ k h. refl)

pub overflow_add-result : goal.overflow_add-result
overflow_add-result c = omega (arith, missing_below (view_of c.args.b) _ (sym c.in-Some.ensures), c.requires.few)

pub new-requires : goal.new-requires
new-requires c = ready_same _ _ (same (goal.at.new-requires c).In_default) (ready_of _ c.requires (sym c.in_default.ensures))

pub overflow_add-result-in-Some-first_negative : goal.overflow_add-result-in-Some-first_negative
overflow_add-result-in-Some-first_negative c =
    let s = same (goal.at.overflow_add-result-in-Some-first_negative c).In_default in
    omega (arith, negative_below (view_of c.args.b) _ (sym (negative_same _ _ s) ∙ sym (rw c.new.ensures at c.in-Some-first_negative.ensures)), c.requires.few)

pub returns-in-Some : goal.returns-in-Some
returns-in-Some c = tested_missing c.args.b c.args.at _ (sym c.in-Some.ensures)

pub returns-in-Some-first_negative : goal.returns-in-Some-first_negative
returns-in-Some-first_negative c =
    let s = same (goal.at.returns-in-Some-first_negative c).In_default in
    tested_negative c.args.b c.args.at _ (sym c.in_default.ensures)
    (sym (negative_same _ _ s) ∙ sym (rw c.new.ensures at c.in-Some-first_negative.ensures))

pub returns : goal.returns
returns c =
    let s = same (goal.at.returns c).In_default in
    tested_accepted c.args.b c.args.at (sym c.in_default.ensures)
    (sym (negative_same _ _ s) ∙ sym (rw c.new.ensures at c.in_default-first_negative.ensures))
