pub mod Formats
pub mod Frames
pub mod Judging
pub mod Reads
pub mod Writes
pub mod Changes
