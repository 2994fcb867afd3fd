-- Natural runoff of a unit.
pub mod Soil
pub mod Year
pub mod Mean
pub mod Record
pub mod Walk
