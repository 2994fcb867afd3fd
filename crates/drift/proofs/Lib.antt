-- The proofs that each value of a moving window is what a book of its years gives.
pub mod Bytes
pub mod Growing
pub mod Books
pub mod Windows
