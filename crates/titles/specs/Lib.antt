-- What titles add to the entries of units and aquifers.
pub mod Slot
pub mod Posting
pub mod Adds
pub mod Titled
