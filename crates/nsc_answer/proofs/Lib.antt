pub mod Crossing
pub mod Marked
