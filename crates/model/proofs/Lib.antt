pub mod Answers
pub mod Within
