pub mod Capacities
pub mod Parts
pub mod Rated
