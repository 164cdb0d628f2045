-- The definitions of indexes: names, numbers, chains, and the index of each file.
pub mod Indexes
pub mod Names
pub mod Numbers
pub mod Chains
pub mod Fronts
pub mod Looks
pub mod Signs
pub mod Users
pub mod Groups
pub mod Hosts
pub mod Services
pub mod IndexedContent
pub mod Indexed
