pub mod Patterns
pub mod RegisterLaws
pub mod ZerosLaws
pub mod WindowLaws
pub mod TwinLaws
pub mod OddLaws
pub mod FewLaws
