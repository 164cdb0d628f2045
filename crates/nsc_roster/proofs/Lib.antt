pub mod Crossing
mod Rosters
