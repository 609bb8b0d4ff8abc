pub mod ReduceLaws
pub mod SearchLaws
