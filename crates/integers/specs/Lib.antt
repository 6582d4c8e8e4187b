pub mod Gcd
pub mod Laws
