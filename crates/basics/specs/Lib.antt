pub mod Limits
pub mod Choice
pub mod Count
pub mod Lists
pub mod Buffer
pub mod Padded
