pub mod Buckets
pub mod Interns
pub mod Path
pub mod Probe
pub mod Solo
pub mod SoloInside
pub mod StoreView
