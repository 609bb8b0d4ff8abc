pub mod Spans
pub mod Places
