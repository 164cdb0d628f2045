-- The definitions of a database's tables, and of a caller's handles at the tables.
pub mod Tables
pub mod Seats
