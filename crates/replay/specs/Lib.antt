-- A journal replayed: the replies to its records, and all that is printed for it.
pub mod Page
pub mod Journal
