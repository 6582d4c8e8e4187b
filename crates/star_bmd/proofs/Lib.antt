mod ContentLaws
pub mod JoinLaws
