pub mod Page
pub mod Text
