pub mod MarkLaws
pub mod PaddedLaws
pub mod SetLaws
