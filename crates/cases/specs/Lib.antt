-- The cases of document 01, the book that it prints, two cases of rain in tenths, two of well water that comes back and two of reservoirs.
pub mod Printed
pub mod OneUnit
pub mod Balances
pub mod Returning
pub mod Lines
pub mod Reservoirs
pub mod Cases
