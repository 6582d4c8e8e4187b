pub mod BuiltLaws
pub mod CauseLaws
pub mod GateLaws
pub mod InputLaws
pub mod NetLaws
pub mod SideLaws
pub mod WordLaws
pub mod WorkLaws
