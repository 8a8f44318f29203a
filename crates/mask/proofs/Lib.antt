pub mod Has
pub mod Bits
pub mod Zeros
pub mod Members
pub mod Unique
pub mod Listed
