pub mod ToldLaws
pub mod WorkedExamples
