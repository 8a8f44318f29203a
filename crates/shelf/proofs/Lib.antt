pub mod Moving
pub mod Loop
