-- What is handed over.
pub mod Handed
