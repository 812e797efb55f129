pub mod Cascades
pub mod Levels
pub mod Members
pub mod Proved
pub mod Seats
