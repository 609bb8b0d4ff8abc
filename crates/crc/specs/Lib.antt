pub mod Check
pub mod CheckUpdate
pub mod Inner
