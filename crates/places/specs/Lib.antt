pub mod Places
pub mod Table
pub mod Among
pub mod Seats
pub mod Room
pub mod Parts
pub mod Boards
