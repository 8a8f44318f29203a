pub mod Others
pub mod Serving
pub mod Turns
pub mod Session
