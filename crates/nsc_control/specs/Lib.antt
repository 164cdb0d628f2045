-- The definitions of commands to a daemon: control requests, and what comes of a command.
pub mod Asks
pub mod Commands
