-- What a journal asks: its records, and the state after them.
pub mod Watched
pub mod Records
pub mod Requests
pub mod Under
