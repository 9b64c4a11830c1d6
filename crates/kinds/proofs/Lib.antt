pub mod Padding
pub mod Rows
pub mod Named
pub mod Works
pub mod BothWays
pub mod Told
pub mod Numbered
pub mod Unique
