pub mod Halves
pub mod Layout
pub mod Opening
pub mod Proved
pub mod Rows
pub mod Sweeps
