-- The proofs of demand 3.
pub mod Shares
pub mod Outlets
pub mod Reserves
pub mod Sums
pub mod Upstream
pub mod Transfers
pub mod Closeness
pub mod Following
pub mod Promise
pub mod Agreement
