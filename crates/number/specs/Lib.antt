pub mod Bytes
pub mod Decode
pub mod Encode
pub mod Told
