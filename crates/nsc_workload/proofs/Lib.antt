mod Joined
mod Marks
mod Told
pub mod Crossing
pub mod Counted
