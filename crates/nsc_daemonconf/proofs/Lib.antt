pub mod Hexadecimals
pub mod Tables
pub mod Effects
