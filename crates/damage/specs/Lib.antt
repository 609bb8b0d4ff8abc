pub mod Damage
pub mod Seen
pub mod Frames
pub mod Promise
