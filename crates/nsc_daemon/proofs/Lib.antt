mod Bound
pub mod Crossing
mod Ends
mod Gates
