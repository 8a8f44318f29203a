pub mod Numbers
pub mod Over
pub mod Filling
pub mod Tests
pub mod Packed
