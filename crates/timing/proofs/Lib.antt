pub mod Counts
pub mod Stuck
pub mod Rises
