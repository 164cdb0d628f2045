-- The definitions of a table's words: bytes, packing, hashes, layout and nodes.
pub mod Words
pub mod Packing
pub mod Hash
pub mod Layout
pub mod Laid
