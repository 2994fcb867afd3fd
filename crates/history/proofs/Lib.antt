-- The proofs of what keepings and returns come to.
pub mod Kept
pub mod Following
pub mod Promise
pub mod Sentences
