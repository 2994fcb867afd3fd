-- The river of a basin: flow, committed volume, own reserve and availability of its units, and recharge and availability of its aquifers.
pub mod Flow
pub mod Reserve
pub mod Wells
pub mod Passes
pub mod Units
pub mod Split
pub mod Limits
