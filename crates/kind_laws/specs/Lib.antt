pub mod Body
pub mod Content
pub mod EdgeWords
pub mod Graph
pub mod Kind
pub mod Plain
pub mod Scale
