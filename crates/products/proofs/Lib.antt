pub mod TableLaws
pub mod SettledLaws
pub mod TotalLaws
