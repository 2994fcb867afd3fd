-- The moving window: how runoff drifts over a record of rain years.
pub mod Window
pub mod Refused
pub mod Moving
pub mod Handed
