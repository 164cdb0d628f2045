-- The definitions of a table's growth: layouts, and layouts doubled.
pub mod Doubled
pub mod Sized
