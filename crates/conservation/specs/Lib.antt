-- Demand 3: the tally and the claim, and what is said of each call.
pub mod Demand3
pub mod Replies
