pub mod Held
pub mod Sayings
pub mod Scans
pub mod ByKind
pub mod Ids
pub mod Walked
pub mod Filtered
