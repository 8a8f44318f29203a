pub mod Frame
pub mod Call
