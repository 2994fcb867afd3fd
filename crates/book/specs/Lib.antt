-- The book: reading its description, and what opening gives.
pub mod Reading
pub mod Steps
pub mod Opening
