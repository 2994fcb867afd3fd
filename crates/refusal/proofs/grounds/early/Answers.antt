-- `refusal::early` meets its contract. Assumes nothing.
use Rattle.std.proofs.Common.{◌≡◌, ◌∙◌, rules}
use Rattle.refusal.specs.Steps.{entries_of, goes_down}
use Rattle.refusal.proofs.Giving.{goes_down_alone}
use Rattle.refusal.proofs.grounds.early.Goals as goal
use Rattle.refusal.proofs.grounds.early.Goals.{After-goes_down}

-- Whether the title goes down is the same over the units alone and over all entries.
way : (c : After-goes_down) → c.goes_down.result ≡ goes_down (entries_of c.args.tree.now c.args.aquifers.now c.args.given) c.args.t
way c = c.goes_down.ensures ∙ goes_down_alone (entries_of c.args.tree.now c.args.aquifers.now c.args.given) c.args.t

pub returns-then-goes_down : goal.returns-then-goes_down
returns-then-goes_down c = let e = way (goal.at.returns-then-goes_down c).After-goes_down in search rules

pub returns-then-not-is_volume : goal.returns-then-not-is_volume
returns-then-not-is_volume c = let e = way (goal.at.returns-then-not-is_volume c).After-goes_down in search rules

pub returns-then-given-ge-TITLES : goal.returns-then-given-ge-TITLES
returns-then-given-ge-TITLES c = let e = way (goal.at.returns-then-given-ge-TITLES c).After-goes_down in search rules

pub returns-then-overfull : goal.returns-then-overfull
returns-then-overfull c = let e = way (goal.at.returns-then-overfull c).After-goes_down in search rules

pub returns : goal.returns
returns c = let e = way (goal.at.returns c).After-goes_down in search rules
