pub mod Text
pub mod Line
pub mod Printed
pub mod Parts
