pub mod Heads
pub mod Used
pub mod Judged
pub mod Records
pub mod Answers
pub mod Streams
pub mod Unique
