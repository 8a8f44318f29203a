pub mod Bench
pub mod Parts
