-- The definitions of the laws: the core of a database, whole runs, replays and switches.
pub mod Core
pub mod Calls
pub mod Reloading
pub mod Replies
pub mod Moments
pub mod Turns
pub mod ServiceLists
pub mod Origins
pub mod Spelled
