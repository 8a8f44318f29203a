pub mod Kind
pub mod Row
pub mod Table
pub mod Sheet
pub mod Told
pub mod Draft
pub mod Parts
