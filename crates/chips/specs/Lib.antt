pub mod Chips
pub mod Packing
