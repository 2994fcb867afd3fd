-- The proofs of planning states.
pub mod Naming
pub mod Places
pub mod Replying
pub mod Promises
pub mod Deciding
