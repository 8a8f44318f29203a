pub mod Reason
pub mod Parts
