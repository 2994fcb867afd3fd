-- The records of a book: their bytes, marks and fields, the refusals of reading, and the calls.
pub mod Bytes
pub mod Record
pub mod Described
pub mod Entries
pub mod Fault
pub mod Calls
