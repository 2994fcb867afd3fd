-- The balance: the test for 0 and the figures.
pub mod Sound
pub mod Figures
