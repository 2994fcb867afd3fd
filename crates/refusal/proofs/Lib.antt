pub mod Granting
pub mod Giving
pub mod Entries
pub mod Reservoirs
