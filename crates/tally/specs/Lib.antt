pub mod Buffers
pub mod States
pub mod Rounds
pub mod Given
pub mod Told
