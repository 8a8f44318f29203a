pub mod Search
pub mod Outcome
pub mod Parts
pub mod Boards
