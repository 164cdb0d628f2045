-- The definitions of texts: spans, lines, fields, words, numbers, addresses and buffers.
pub mod Span
pub mod Text
pub mod Found
pub mod Fields
pub mod Words
pub mod Decimal
pub mod Addresses
pub mod Buf
pub mod Nodes
pub mod AnyCase
pub mod Texts
