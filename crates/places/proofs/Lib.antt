pub mod Laws
pub mod Among
pub mod Masks
pub mod Room
pub mod Seats
pub mod Shifts
pub mod Clearing
pub mod Unique
