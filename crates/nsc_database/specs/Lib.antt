-- The definitions of a shared database: its brand, critical sections, lookups and ticks.
pub mod Rooms
pub mod Steady
pub mod Rests
pub mod Openings
pub mod Frames
pub mod Made
pub mod Holds
pub mod Growing
pub mod Ticks
pub mod Lookups
pub mod Database
