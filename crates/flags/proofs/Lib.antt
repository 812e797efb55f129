pub mod Parts
pub mod Found
pub mod Hits
pub mod Empties
pub mod Checks
pub mod HandedOn
pub mod Readings
