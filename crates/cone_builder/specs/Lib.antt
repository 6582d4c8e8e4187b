pub mod Built
pub mod Causes
pub mod Plans
pub mod Sides
