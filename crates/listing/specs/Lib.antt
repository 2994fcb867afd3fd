-- What the program prints for a book.
pub mod Listing
pub mod Outcomes
pub mod Printing
