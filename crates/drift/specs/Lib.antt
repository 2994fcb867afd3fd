-- What each value of a moving window is by the books, and worked records.
pub mod Windows
pub mod Worked
pub mod Order
