pub mod Apps
pub mod Found
pub mod PlainWords
pub mod Commands
pub mod Taken
pub mod Examples
