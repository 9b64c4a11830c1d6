pub mod Layout
pub mod Request
pub mod Answer
pub mod Stream
