-- What a title does to a balance.
pub mod Effect
pub mod Room
pub mod Granted
pub mod Cancelled
