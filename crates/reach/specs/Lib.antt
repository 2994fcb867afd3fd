-- Which units lie below and which belong to one outlet.
pub mod Reach
pub mod Passes
