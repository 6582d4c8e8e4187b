mod ContentLaws
pub mod JoinLaws
pub mod SkipLaws
pub mod PartLaws
