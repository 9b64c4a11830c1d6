pub mod Table
pub mod Work
pub mod Ways
pub mod Read
