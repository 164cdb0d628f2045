-- The definitions of a compaction.
pub mod Compacting
