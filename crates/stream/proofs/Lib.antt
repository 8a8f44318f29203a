pub mod Framing
pub mod Steady
pub mod Reach
pub mod Onward
