pub mod Unique
pub mod Kept
