pub mod Ordered
pub mod Parts
pub mod Boards
