pub mod Shown
pub mod Sound
