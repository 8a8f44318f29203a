pub mod Plan
pub mod Range
pub mod Told
pub mod Receive
pub mod Draft
pub mod Parts
