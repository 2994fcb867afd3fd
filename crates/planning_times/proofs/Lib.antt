-- The proofs of what is timed.
pub mod Turning
