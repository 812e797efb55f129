pub mod Ahead
pub mod Blocks
pub mod Faults
pub mod Input
pub mod Output
pub mod Texts
