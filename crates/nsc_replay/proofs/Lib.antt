pub mod Steps
pub mod Firsts
pub mod Parts
pub mod Outputs
pub mod OneRound
pub mod Chains
pub mod Cacheds
