-- Document 01's rain rule in millimetres, and what a book opens and prints by it.
pub mod Rule
pub mod Opening
