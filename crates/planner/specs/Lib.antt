pub mod Asked
pub mod Lists
pub mod Answered
pub mod Parts
