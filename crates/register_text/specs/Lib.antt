pub mod Told
pub mod Texts
pub mod ToldTexts
