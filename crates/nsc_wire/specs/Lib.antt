-- The definitions of requests and replies that are read from bytes.
pub mod Request
pub mod Fields
pub mod Replies
