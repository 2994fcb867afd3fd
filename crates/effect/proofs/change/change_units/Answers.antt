-- The units change as the title asks, by its kind. Assumes nothing.
use Rattle.effect.proofs.Changing.{withdrawal_changed, pumping_changed, transfer_changed, bringing_changed}
use Rattle.effect.proofs.Returning.{returning_set}
use Rattle.effect.proofs.change.change_units.Goals as goal

pub returns-in-UnitWithdrawal : goal.returns-in-UnitWithdrawal
returns-in-UnitWithdrawal g c =
    withdrawal_changed g.D.Direction.op g.met.D.Direction.neutral g.D.Direction.left _ _ c.requires _ _ _ _ _ _ _ c.in-UnitWithdrawal.is c.from.ensures c.returned.ensures c.change-u.ensures c.change-u-in-UnitWithdrawal.ensures

pub returns-in-AquiferWithdrawal : goal.returns-in-AquiferWithdrawal
returns-in-AquiferWithdrawal g c = pumping_changed g.D.Direction.op g.met.D.Direction.neutral g.D.Direction.left _ _ c.requires _ _ c.in-AquiferWithdrawal.is

pub returns-in-UnitTransfer : goal.returns-in-UnitTransfer
returns-in-UnitTransfer g c =
    transfer_changed g.D.Direction.op g.met.D.Direction.neutral g.D.Direction.left _ _ c.requires _ _ _ _ _ _ _ c.in-UnitTransfer.is c.from-in-UnitTransfer.ensures c.from-in-UnitTransfer-2.ensures c.change-giver.ensures c.change-receiver.ensures

pub returns-in-AquiferTransfer : goal.returns-in-AquiferTransfer
returns-in-AquiferTransfer g c =
    bringing_changed g.D.Direction.op g.met.D.Direction.neutral g.D.Direction.left _ _ c.requires _ _ _ _ _ c.in-AquiferTransfer.is c.from-in-AquiferTransfer.ensures c.change-u-in-AquiferTransfer.ensures

pub returns-in-ReturningWithdrawal : goal.returns-in-ReturningWithdrawal
returns-in-ReturningWithdrawal g c =
    returning_set g.D.Direction.op g.met.D.Direction.neutral g.D.Direction.left _ _ c.requires _ _ _ _ _ _ _ c.in-ReturningWithdrawal.is c.from-in-ReturningWithdrawal.ensures c.returned-back.ensures c.change-named.ensures
