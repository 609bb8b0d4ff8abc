pub mod LocateLaws
pub mod WordLaws
pub mod MendLaws
pub mod PutLaws
