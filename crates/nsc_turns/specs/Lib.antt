-- The definitions of a cache's turns: lookups, insertions, ticks and invalidations.
pub mod Turns
pub mod Loads
pub mod Ticks
