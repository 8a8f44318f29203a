pub mod Part
pub mod Decode
pub mod Encode
pub mod RoundTrip
pub mod Unique
