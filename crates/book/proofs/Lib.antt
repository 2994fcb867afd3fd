pub mod Entries
pub mod Growing
pub mod Telling
pub mod Ending
pub mod Finishing
pub mod Following
pub mod Promises
