pub mod Draft
pub mod Fault
pub mod Finish
pub mod Inside
