pub mod Outcomes
pub mod Rest
pub mod Writings
pub mod Unique
