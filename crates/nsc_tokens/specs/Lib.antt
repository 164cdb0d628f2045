-- The definitions of a table of values under tokens.
pub mod Tokens
