pub mod Benching
pub mod Cut
