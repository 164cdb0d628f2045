mod Chain
mod Along
pub mod Crossing
mod Retired
