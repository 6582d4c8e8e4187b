pub mod Additive
pub mod Laws
pub mod Skips
