-- The definitions of account files: fields, entries, a user's groups, and lines that matter.
pub mod Fields
pub mod Passwd
pub mod Group
pub mod Once
pub mod NamedId
pub mod Matters
