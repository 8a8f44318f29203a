pub mod Why
pub mod Parts
