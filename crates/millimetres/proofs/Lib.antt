-- The proofs that books without a PD print as by document 01's rule.
pub mod Scaling
pub mod Units
pub mod Reading
pub mod Books
