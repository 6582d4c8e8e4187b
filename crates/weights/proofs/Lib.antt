pub mod GcdLaws
