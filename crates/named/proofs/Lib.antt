-- Calls of a closure, one after the other.
pub mod Handing
