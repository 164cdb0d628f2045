pub mod Fields
pub mod Options
pub mod Dotted
pub mod Groups
pub mod Pairs
pub mod ColonHex
pub mod Printed
pub mod Numerals
