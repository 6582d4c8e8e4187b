pub mod Answer
pub mod Backward
pub mod FormulaWork
pub mod Forward
pub mod Laws
pub mod Limits
pub mod Sides
pub mod Work
