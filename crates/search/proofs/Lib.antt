pub mod Steps
pub mod Caught
pub mod Turns
pub mod Rounds
pub mod Sweeps
pub mod Hands
