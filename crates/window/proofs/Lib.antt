pub mod Sums
pub mod Accepted
pub mod Means
pub mod Promises
