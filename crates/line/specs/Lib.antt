pub mod Codes
pub mod Decoding
pub mod Encoding
pub mod OneWord
pub mod Inner
