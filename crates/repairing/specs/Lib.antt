pub mod Remains
pub mod Inner
