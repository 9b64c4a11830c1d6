pub mod Refused
pub mod Written
pub mod Left
pub mod Unique
