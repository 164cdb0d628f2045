-- The definitions of a plain cache: insertions, files, the list of entries, and the cache.
pub mod Insertion
pub mod DbFiles
pub mod EntryList
pub mod PlainCache
