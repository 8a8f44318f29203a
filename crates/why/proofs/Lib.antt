pub mod Within
pub mod Answers
pub mod Unique
pub mod Timed
pub mod Out
