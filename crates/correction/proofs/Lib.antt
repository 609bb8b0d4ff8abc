pub mod WordLaws
pub mod RowLaws
pub mod TurnLaws
pub mod PutLaws
