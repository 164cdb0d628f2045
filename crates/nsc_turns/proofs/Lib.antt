pub mod Events
pub mod Emptied
pub mod Renewed
pub mod Pruned
pub mod Machines
pub mod Polled
