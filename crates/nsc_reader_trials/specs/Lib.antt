-- The definitions of the trials of readers.
pub mod First
