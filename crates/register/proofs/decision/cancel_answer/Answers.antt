-- `register::cancel_answer` meets its contract. Assumes nothing.
use Prim.Native.Nat.{ℕ, ◌-◌}
use mathlib.Core.Path.{◌≡◌, sym, ap, subst⁻¹, ◌∙◌}
use mathlib.Core.Bool.{true, not}
use lib.ListN.{get_or}
use native.Mathlib.Omega.{arith}
use native.Mathlib.Numerals.{sub-one}
use borrow.Author.Tests.{not-true, not-false}
use Rattle.model.specs.Fresh.{empty_place}
use Rattle.model.specs.View.{view_of}
use Rattle.river.specs.Flow.{Ready}
use Rattle.river.specs.Units.{units_view}
use Rattle.basin.specs.Sound.{flowing}
use Rattle.basin.proofs.Soundness.{soundness}
use Rattle.effect.specs.Granted.{Sized}
use Rattle.effect.specs.Cancelled.{cancelled, lowered_units, UnitsHeld}
use Rattle.register.specs.Cancel.{number_in_force}
use Rattle.register.specs.declared.Reply.{Reply}
use Rattle.register.proofs.Leaving.{reply_not_in_force, reply_needed, reply_cancelled}
use Rattle.register.proofs.Trial.{takable, lowered_ready, lowered_flowing}
use Rattle.register.proofs.decision.cancel_answer.Goals as goal
use Rattle.register.proofs.decision.cancel_answer.Goals.{After-needed, Else-not-in_force}

pub in_force-requires : goal.in_force-requires
in_force-requires c = (soundness (view_of c.args.b.now) c.requires).few_titles

pub returns-then-not-in_force : goal.returns-then-not-in_force
returns-then-not-in_force c =
    ap (λ (r : Reply). r.answer) (reply_not_in_force c.args.b.now c.args.number c.requires (sym c.in_force.ensures ∙ c.if-not-in_force.true))

-- The number is in force.
stands : (c : Else-not-in_force) → number_in_force (view_of c.args.b.now) c.args.number ≡ true
stands c = sym c.in_force.ensures ∙ c.if-not-in_force.false

pub needed-requires : goal.needed-requires
needed-requires c =
    let b = c.args.b.now in
    let n = c.args.number in
    let q = stands (goal.at.needed-requires c).Else-not-in_force in
    let z : Sized b = record { units = omega arith; aquifers = omega arith; titles = omega arith } in
    subst⁻¹ (λ (k : ℕ). let t = (get_or b.titles k empty_place).title in
    UnitsHeld t b.units × Ready (units_view (lowered_units t b.units) b.unit_count)) (ap (λ (k : ℕ). k - 1) c.from.ensures ∙ sub-one n)
    ((takable b n c.requires q).units, lowered_ready b n c.requires q z)

-- What the flows without the title say of the balance.
flows : (c : After-needed) → c.needed.result ≡ not (flowing (cancelled (view_of c.args.b.now) c.args.number))
flows c =
    let b = c.args.b.now in
    let n = c.args.number in
    let z : Sized b = record { units = omega arith; aquifers = omega arith; titles = omega arith } in
    c.needed.ensures
    ∙ ap (λ (k : ℕ). not (flowing (units_view (lowered_units (get_or b.titles k empty_place).title b.units) b.unit_count)))
    (ap (λ (k : ℕ). k - 1) c.from.ensures ∙ sub-one n)
    ∙ ap not
    (lowered_flowing b n c.requires (stands (goal.at.After-needed c).Else-not-in_force) z)

pub returns-then-needed : goal.returns-then-needed
returns-then-needed c =
    ap (λ (r : Reply). r.answer) (reply_needed c.args.b.now c.args.number c.requires (stands (goal.at.returns-then-needed c).Else-not-in_force)
    (not-true _ (sym (flows (goal.at.returns-then-needed c).After-needed) ∙ c.if-needed.true)))

pub returns : goal.returns
returns c =
    ap (λ (r : Reply). r.answer) (reply_cancelled c.args.b.now c.args.number c.requires (stands (goal.at.returns c).Else-not-in_force)
    (not-false _ (sym (flows (goal.at.returns c).After-needed) ∙ c.if-needed.false)))
