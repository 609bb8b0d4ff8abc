pub mod LettersLaws
pub mod MakerLaws
pub mod NameLaws
pub mod WorkedExamples
pub mod KeyLaws
pub mod StoreLaws
