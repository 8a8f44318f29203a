pub mod Dead
pub mod Spreads
pub mod Tries
pub mod Lowering
