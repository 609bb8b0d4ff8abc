pub mod SyncSearch
pub mod FirstMatch
pub mod Kinds
pub mod Tails
