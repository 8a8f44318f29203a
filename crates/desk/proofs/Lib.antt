pub mod Writing
pub mod Reading
pub mod Unique
pub mod Caller
