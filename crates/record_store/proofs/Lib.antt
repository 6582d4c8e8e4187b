pub mod BucketLaws
mod Examples
pub mod PushLaws
pub mod SoloLaws
