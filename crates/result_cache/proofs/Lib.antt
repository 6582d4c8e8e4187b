pub mod CacheLaws
pub mod HeldLaws
