pub mod Calls
pub mod Faults
pub mod Laws
pub mod Questions
pub mod Row
pub mod Texts
