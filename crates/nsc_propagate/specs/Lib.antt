-- The definitions of what is kept beside a name.
pub mod Answered
