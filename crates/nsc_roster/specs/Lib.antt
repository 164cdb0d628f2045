-- The definitions of the roster of threads that accept connections.
pub mod Rosters
