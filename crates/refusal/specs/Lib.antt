-- The grounds on which a grant is refused.
pub mod Grant
pub mod Steps
pub mod Reservoirs
