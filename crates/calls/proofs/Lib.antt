pub mod Onward
pub mod Running
