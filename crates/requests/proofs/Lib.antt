-- The proofs of what a request does to the state.
pub mod States
pub mod Reading
