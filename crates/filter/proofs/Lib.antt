pub mod ListedLaws
pub mod FilterLaws
pub mod WorkedExamples
