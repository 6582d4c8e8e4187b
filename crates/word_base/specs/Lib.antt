pub mod Fault
pub mod Kind
pub mod Levels
pub mod Range
pub mod Words
