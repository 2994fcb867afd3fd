-- Planning states: what is kept, keeping, going back, and opening.
pub mod Names
pub mod State
pub mod Calls
pub mod Decision
