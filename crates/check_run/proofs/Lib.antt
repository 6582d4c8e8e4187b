pub mod DecideLaws
pub mod Examples
pub mod FileLaws
pub mod LimitLaws
pub mod LoadLaws
pub mod ReportLaws
pub mod RunLaws
