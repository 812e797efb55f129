-- Proofs that the device owes as a table; nothing here has to be believed.
pub mod Marks
pub mod Memory
pub mod Rows
