pub mod ValueLaws
pub mod DivideLaws
pub mod ErrorLaws
pub mod GoingLaws
pub mod VisitLaws
pub mod RepairLaws
