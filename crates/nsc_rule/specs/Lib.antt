-- The definitions of the shared words: the writer's plan, its steps, readers and searches.
pub mod Entries
pub mod Map
pub mod Plans
pub mod Strokes
pub mod Seats
pub mod Pen
pub mod Pass
pub mod Searches
