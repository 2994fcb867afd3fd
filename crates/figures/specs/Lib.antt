-- The figures of all units and aquifers of a balance.
pub mod Figures
pub mod Recharge
