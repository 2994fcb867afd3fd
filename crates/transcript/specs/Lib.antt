-- Journals with no record of their own, and what stands after all records of a journal.
pub mod Plain
pub mod Followed
pub mod Appended
