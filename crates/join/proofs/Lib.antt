pub mod Alls
pub mod Calls
pub mod Cuts
pub mod Firsts
pub mod Parts
pub mod Seats
