-- The definitions of a table's nodes: words, copies, live entries, searches and hints.
pub mod Uses
pub mod Sheet
pub mod Copied
pub mod Shelf
pub mod Finding
pub mod Hints
