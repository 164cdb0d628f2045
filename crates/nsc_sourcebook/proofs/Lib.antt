pub mod Newest
pub mod Each
pub mod Crossing
