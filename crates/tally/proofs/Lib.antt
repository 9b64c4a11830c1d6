pub mod Rounds
pub mod Shown
pub mod Seen
pub mod Told
