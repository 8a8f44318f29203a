pub mod Times
pub mod Parts
pub mod Boards
