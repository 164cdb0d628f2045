-- The definitions of replays: frames, databases, the machine, streams and runs.
pub mod Frame
pub mod Cached
pub mod Parts
pub mod Machine
pub mod Reading
pub mod Turns
pub mod Streams
pub mod Runs
