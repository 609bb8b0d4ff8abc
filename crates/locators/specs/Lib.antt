pub mod Combinations
pub mod Inner
