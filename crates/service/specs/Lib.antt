pub mod Shelf
pub mod Session
pub mod Parts
