pub mod Sheet
pub mod Refusal
pub mod Field
pub mod Told
pub mod Put
pub mod Pen
pub mod Send
