-- The definitions of searches without a lock.
pub mod Stages
