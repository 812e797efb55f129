pub mod Checks
pub mod Changes
pub mod First
pub mod Granted
pub mod Refusals
pub mod Shapes
pub mod Splits
pub mod Told
