-- The definitions of late yields, and of the pauses that follow late yields.
pub mod Yields
