-- What is read into a buffer.
pub mod Filling
