pub mod Flows
pub mod Reserves
pub mod Firsts
pub mod Carried
pub mod Passing
pub mod Stepping
pub mod Units
pub mod Local
