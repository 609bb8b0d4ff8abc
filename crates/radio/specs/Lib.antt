pub mod KindParts
pub mod Receiving
pub mod Sending
pub mod Heard
