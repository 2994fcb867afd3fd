pub mod Units
pub mod Aquifers
