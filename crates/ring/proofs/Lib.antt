pub mod Rings
pub mod Walks
pub mod Unique
