pub mod MarkLaws
pub mod PassedLaws
pub mod ScanLaws
pub mod SearchLaws
pub mod TailLaws
pub mod WorkedExamples
