pub mod Layout
pub mod HeaderReads
pub mod HeaderWrites
pub mod AccessBits
