pub mod Outcome
pub mod Refusals
