pub mod Ends
pub mod Matched
pub mod Courses
pub mod Added
pub mod Refusals
pub mod Claims
pub mod Names
pub mod Scoped
