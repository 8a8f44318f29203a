pub mod Lives
pub mod Sound
pub mod Replies
pub mod Unique
pub mod Placed
