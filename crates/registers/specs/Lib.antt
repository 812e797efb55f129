pub mod Faults
pub mod Fresh
pub mod Lending
pub mod Setting
pub mod Start
pub mod Texts
