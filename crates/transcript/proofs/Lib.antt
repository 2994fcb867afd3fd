-- The theorems of journals: their pages, their whole text, where their description ends, those that print as a book does with two examples,
-- what stands after their records, and what stays when bytes are appended.
pub mod Watching
pub mod Pages
pub mod Whole
pub mod Cutting
pub mod Books
pub mod Followed
pub mod Alike
pub mod Appending
pub mod Moved
pub mod Opening
pub mod Appended
