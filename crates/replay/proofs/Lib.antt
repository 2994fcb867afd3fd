-- The proofs of a journal replayed.
pub mod Records
pub mod Replaying
pub mod Steps
pub mod Ending
pub mod Printed
