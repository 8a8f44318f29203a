pub mod Spelled
pub mod Planned
pub mod Parts
pub mod Boards
