pub mod Meters
pub mod Changes
pub mod StoreFile
pub mod StoreCalls
pub mod Valid
pub mod History
