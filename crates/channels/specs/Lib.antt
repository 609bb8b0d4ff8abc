pub mod Table21
pub mod Plan
pub mod Listing
pub mod Inner
