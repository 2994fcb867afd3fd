-- Aquifers (000, B.1). Assumes nothing.
use Rattle.std.specs.Prelude.{ℤ, pos, ◌+ℤ◌, ◌-ℤ◌}
use Rattle.model.specs.declared.Aquifer.{Aquifer}

-- Recharge = storage change + natural + pumped discharge.
abbrev pub recharge : Aquifer → ℤ
recharge a = a.storage +ℤ pos a.natural +ℤ pos a.pumped

-- Availability = recharge − committed discharge − titled extraction in all.
abbrev pub well_availability : Aquifer → ℤ
well_availability a = recharge a -ℤ pos a.committed -ℤ pos a.extraction
