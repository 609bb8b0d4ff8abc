pub mod AlphaLaws
pub mod FieldLaws
pub mod PowerLaws
pub mod PrimitiveLaws
pub mod StepLaws
pub mod PolynomialLaws
pub mod DampLaws
pub mod DistanceLaws
