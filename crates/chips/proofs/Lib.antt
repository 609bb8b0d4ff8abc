pub mod GatherLaws
pub mod PackingLaws
pub mod WindowLaws
pub mod RangeLaws
