pub mod Text
pub mod Putting
pub mod Page
pub mod Refused
pub mod Examples
pub mod Sums
