pub mod Has
pub mod Member
pub mod Lowest
pub mod Count
pub mod Disks
pub mod Rising
