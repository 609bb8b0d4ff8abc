pub mod Inner
pub mod InnerOpened
