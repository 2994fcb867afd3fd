-- What a balance holds, and the view of it that the definitions of the figures and refusals work from.
pub mod Fresh
pub mod Entries
pub mod View
pub mod Answers
pub mod Limits
pub mod Ranges
