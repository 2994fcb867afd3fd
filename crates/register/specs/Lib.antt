-- The register: what a call refuses, and what it hands back.
pub mod Reply
pub mod Cancel
pub mod Calls
