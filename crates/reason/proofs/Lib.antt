pub mod Unique
pub mod Told
pub mod Cuts
pub mod Cases
pub mod Answers
