pub mod Letters
pub mod Makers
pub mod Names
pub mod Keys
