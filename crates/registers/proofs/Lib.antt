pub mod Ends
pub mod Widths
