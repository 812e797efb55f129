pub mod Faults
pub mod Hex
pub mod Laws
pub mod Numbers
pub mod Taking
pub mod Words
