pub mod Calls
pub mod FirstRow
pub mod Laid
pub mod NewRows
pub mod Quiet
pub mod Remarked
pub mod Writes
