pub mod CoverLaws
mod Examples
pub mod StepLaws
pub mod WalkLaws
