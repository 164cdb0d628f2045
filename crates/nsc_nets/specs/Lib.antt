-- The definitions of network files: lines, services, hosts, and the addresses of a host.
pub mod Lines
pub mod Services
pub mod Hosts
pub mod Addresses
