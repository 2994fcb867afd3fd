-- The rule on an aquifer's recharge. Assumes nothing.
use Rattle.std.specs.Prelude.{Bool}
use Rattle.std.specs.Int.Signed.{non_neg}
use Rattle.model.specs.declared.Aquifer.{Aquifer}
use Rattle.river.specs.Wells.{recharge}

-- Recharge is not negative.
abbrev pub is_recharged : Aquifer → Bool
is_recharged a = non_neg (recharge a)
