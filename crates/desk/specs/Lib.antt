pub mod Desk
pub mod Parts
