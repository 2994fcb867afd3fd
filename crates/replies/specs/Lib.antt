-- What is printed for each request of a journal.
pub mod Reply
pub mod Worked
