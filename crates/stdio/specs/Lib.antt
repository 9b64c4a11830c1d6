pub mod Errors
pub mod Calls
pub mod Kept
