-- The definitions of the daemon: its threads, lookups in place, ends and images.
pub mod Workers
pub mod Holds
pub mod FastPath
pub mod Ends
pub mod Openings
pub mod Images
