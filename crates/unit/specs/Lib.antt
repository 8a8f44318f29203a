pub mod Unit
pub mod Life
pub mod Told
pub mod Sound
pub mod Request
