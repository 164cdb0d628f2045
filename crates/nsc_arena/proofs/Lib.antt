pub mod Bytes
mod Blocks
pub mod Heads
pub mod Answered
pub mod Puts
pub mod Rows
pub mod Chains
pub mod Cleared
pub mod Changed
pub mod Walks
pub mod Slides
pub mod ReadBack
pub mod Passed
pub mod Copies
