-- Each call goes to a later unit, so the distance from its number to 64 falls. Assumes nothing.
use Rattle.std.proofs.Common.{◌-◌}
use Rattle.reach.proofs.below.+lies_below.Given as goal

abbrev pub decreases-lies_below : goal.decreases-lies_below
decreases-lies_below l = 64 - l.u
