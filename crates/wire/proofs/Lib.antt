pub mod Parts
pub mod Words
pub mod Zeros
pub mod Numbers
pub mod Unique
