pub mod Runs
pub mod Clause
pub mod Left
pub mod Desk
