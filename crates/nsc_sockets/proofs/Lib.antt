mod Counts
pub mod Crossing
