pub mod Disks
pub mod Request
pub mod Told
pub mod Draft
pub mod Judged
pub mod Parts
