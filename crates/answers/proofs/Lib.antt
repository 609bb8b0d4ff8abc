pub mod Settled
pub mod OutcomeLaws
