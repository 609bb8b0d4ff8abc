pub mod TableLaws
pub mod RowLaws
