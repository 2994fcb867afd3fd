pub mod Replies
pub mod Staying
pub mod Cancelling
pub mod Leaving
pub mod Keeping
pub mod Trial
