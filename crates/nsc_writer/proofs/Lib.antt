pub mod Told
pub mod Moved
mod Ends
mod Sits
mod Used
mod Raised
mod Few
mod Put
mod Enlarged
pub mod Later
pub mod Crossing
pub mod Rest
