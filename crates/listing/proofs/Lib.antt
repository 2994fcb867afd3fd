pub mod Tables
pub mod Calling
pub mod Rows
