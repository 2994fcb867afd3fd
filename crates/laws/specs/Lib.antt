-- The plain mathematics under the balance: nothing here knows of water.
pub mod Sum
pub mod Gather
pub mod Signed
pub mod Table
