-- The proofs of what is printed for a request.
pub mod Lines
pub mod Said
