pub mod Field
pub mod Polynomials
