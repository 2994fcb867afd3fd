-- `reach::lies_below` meets its contract. Assumes nothing.
use Rattle.std.proofs.Common.{ℕ, ◌≡◌, sym, suc, eqb, ◌||◌}
use Rattle.reach.specs.Reach.{lies_below}
use borrow.Author.Tests.{eq-eqb, ne_eqb}
use Rattle.river.specs.Flow.{downstream, Ready}
use Rattle.river.specs.Units.{units_of}
use Rattle.river.proofs.Units.{ready_at}
use Rattle.reach.proofs.Ways.{below_none, below_step}
use Rattle.reach.proofs.below.+lies_below.Goals as goal
use Rattle.reach.proofs.below.+lies_below.Goals.{In-Some}

-- The units make a tree, and the place of the downstream unit.
tree : (t : ℕ) (c : In-Some t) → Ready (units_of c.args.tree.now)
tree t c = ready_at c.units-units.ensures.units c.units-units.ensures.ready

next : (t : ℕ) (c : In-Some t) → downstream (units_of c.args.tree.now) c.args.u ≡ suc c.in-Some.next
next t c = rw c.units-units.ensures.units at c.in-Some.ensures

step : (t : ℕ) (c : In-Some t) → lies_below (units_of c.args.tree.now) c.args.u c.args.w
    ≡ (eqb c.in-Some.next c.args.w || lies_below (units_of c.args.tree.now) c.in-Some.next c.args.w)
step t c = below_step (units_of c.args.tree.now) (tree t c) c.args.u c.in-Some.next c.args.w c.requires (next t c)

pub returns-in-None : goal.returns-in-None
returns-in-None t c = sym (below_none (units_of c.args.tree.now) c.args.u c.args.w (rw c.units-units.ensures.units at c.in-None.ensures))

pub returns-then-next-w : goal.returns-then-next-w
returns-then-next-w t c =
    rw (step t (goal.at.returns-then-next-w t c).In-Some, eq-eqb c.in-Some.next c.args.w c.if-next-w.true)

pub returns-else-next-w : goal.returns-else-next-w
returns-else-next-w t c =
    rw (step t (goal.at.returns-else-next-w t c).In-Some, ne_eqb c.in-Some.next c.args.w c.if-next-w.false) c.lies_below.ensures
