pub mod Tests
pub mod Choice
pub mod Count
pub mod Lists
pub mod Buffer
pub mod Padded
pub mod Question
