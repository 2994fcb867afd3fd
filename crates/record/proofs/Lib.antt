pub mod Faults
pub mod Clean
pub mod Summing
pub mod Means
