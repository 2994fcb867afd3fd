-- The proofs of writing.
pub mod Beginnings
pub mod Buffers
pub mod Turns
pub mod Putting
