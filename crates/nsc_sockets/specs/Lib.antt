-- The definitions of clocks, listeners, connections, socket modes and whole lines.
pub mod Adapters
pub mod Connections
pub mod MemClock
pub mod CalmListener
pub mod SharedSink
pub mod MemListener
pub mod Modes
pub mod WholeLines
