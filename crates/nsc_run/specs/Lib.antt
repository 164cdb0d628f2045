-- The definitions of the program's runs: command words, configuration and exits.
pub mod Exits
pub mod Lists
pub mod Named
pub mod Forms
pub mod Commands
pub mod Shown
pub mod Runs
