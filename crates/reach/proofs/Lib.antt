pub mod Ways
pub mod Local
pub mod Units
