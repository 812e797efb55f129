pub mod Cuts
pub mod Examples
pub mod Faults
pub mod Kinds
pub mod Laws
pub mod Proved
pub mod Readings
