pub mod LayoutLaws
pub mod FieldLaws
pub mod HeaderReadsLaws
pub mod HeaderWritesLaws
pub mod HeaderTripLaws
pub mod AccessLaws
pub mod WorkedExamples
