pub mod AtLine
pub mod Good
pub mod Meanings
pub mod Steps
pub mod Surveys
pub mod Views
