-- The definitions of the service switch: actions, joined groups, and service lists.
pub mod Actions
pub mod Joins
pub mod Lists
