-- What is left to write of a journal, and what was written of a text.
pub mod Appending
pub mod Left
