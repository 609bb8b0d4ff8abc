pub mod StepLaws
pub mod WorkedExamples
