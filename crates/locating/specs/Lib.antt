pub mod Locates
pub mod Inner
