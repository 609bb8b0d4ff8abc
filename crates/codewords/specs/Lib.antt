pub mod CodeBlocks
pub mod CheckBytes
pub mod Corrections
