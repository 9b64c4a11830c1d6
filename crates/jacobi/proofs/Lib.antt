pub mod Negated
pub mod Run
pub mod Watched
pub mod Moves
pub mod Placed
pub mod Sorted
pub mod Largest
pub mod Unique
