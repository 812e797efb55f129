pub mod Complete
pub mod Counts
pub mod Depth
pub mod Effects
pub mod Groups
pub mod Turns
