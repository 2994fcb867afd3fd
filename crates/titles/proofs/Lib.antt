pub mod Adding
pub mod Raising
