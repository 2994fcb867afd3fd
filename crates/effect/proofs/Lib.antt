pub mod Taking
pub mod Changing
pub mod Returning
