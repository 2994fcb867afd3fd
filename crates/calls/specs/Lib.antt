-- The calls of a book, run over a balance.
pub mod Running
