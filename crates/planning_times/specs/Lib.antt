-- What is timed of a state in which four balances are kept.
pub mod Timed
