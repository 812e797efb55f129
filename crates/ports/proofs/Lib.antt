mod Endings
mod Shifts
mod Words
