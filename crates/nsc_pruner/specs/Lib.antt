-- The definitions of the expiry of entries.
pub mod Due
