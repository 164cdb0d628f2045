-- The definitions of clients and of the gate: links, requests, lines, answers and connections.
pub mod Links
pub mod Sent
pub mod Lookups
pub mod Asks
pub mod GateText
pub mod Gate
pub mod Replying
pub mod Exchanges
pub mod LinesRead
pub mod Serving
pub mod Gathered
pub mod Hits
pub mod Lent
pub mod Held
pub mod SocketLink
