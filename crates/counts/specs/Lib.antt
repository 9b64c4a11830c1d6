pub mod Known
pub mod Cells
pub mod Tally
pub mod Adding
pub mod Refused
