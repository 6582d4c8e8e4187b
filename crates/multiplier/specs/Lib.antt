pub mod Nets
pub mod Gates
pub mod Adders
pub mod Texts
