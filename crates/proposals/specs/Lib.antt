pub mod Received
pub mod Near
pub mod Sixteen
pub mod Proposals
pub mod TakenWith
