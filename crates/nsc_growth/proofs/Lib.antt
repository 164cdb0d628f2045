pub mod Doublings
pub mod Sized
