pub mod Rotation
pub mod Pairs
pub mod Largest
pub mod Run
pub mod Blind
pub mod Order
pub mod Moved
