pub mod Calls
pub mod Agrees
