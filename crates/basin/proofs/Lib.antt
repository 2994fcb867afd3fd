pub mod Everywhere
pub mod Chains
pub mod Ranges
pub mod Soundness
pub mod Replies
pub mod Order
