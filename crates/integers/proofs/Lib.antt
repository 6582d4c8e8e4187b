pub mod Ring
pub mod Division
pub mod GcdLaws
pub mod SignedGcd
pub mod Solver
