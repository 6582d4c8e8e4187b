pub mod Words
pub mod Numbers
pub mod Pairs
pub mod Limits
pub mod Commands
pub mod Examples
