pub mod BodyLaws
pub mod ContentLaws
pub mod EdgeLaws
mod GcdLaws
pub mod GraphLaws
pub mod RootLaws
pub mod RootedLaws
pub mod ScaleLaws
pub mod ShapeLaws
