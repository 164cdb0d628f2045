pub mod Tellings
pub mod Chains
pub mod Keys
pub mod Replies
pub mod Outcomes
pub mod Steps
mod Runs
