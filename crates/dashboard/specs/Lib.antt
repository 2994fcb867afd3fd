-- What a dashboard links.
pub mod Table
