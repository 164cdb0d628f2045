-- The definitions of the list of lines for standard error.
pub mod Backlog
