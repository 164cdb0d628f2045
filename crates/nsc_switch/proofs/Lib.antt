pub mod Ids
pub mod Lengths
pub mod Turns
