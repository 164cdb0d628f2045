-- The definitions of nscd.conf(5): its lines and settings, and tables of names.
pub mod Lines
pub mod Tables
