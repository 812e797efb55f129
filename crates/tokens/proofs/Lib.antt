pub mod HexTexts
pub mod Numerals
pub mod ReadBack
pub mod Reading
pub mod Written
