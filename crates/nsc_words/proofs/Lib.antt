pub mod Lows
