-- The definitions of closers, and of jobs that wait or are left open.
pub mod Closing
