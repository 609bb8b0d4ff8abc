pub mod AboveLaws
pub mod CellarLaws
pub mod NamedLaws
