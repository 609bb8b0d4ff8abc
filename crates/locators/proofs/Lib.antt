pub mod OverLaws
pub mod CombineLaws
pub mod QuotientLaws
pub mod LocatorLaws
