pub mod Complete
pub mod Drafts
pub mod Good
pub mod Orders
pub mod Sound
