pub mod Decimal
pub mod Digits
pub mod Pages
pub mod Writing
