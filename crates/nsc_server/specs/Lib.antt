-- The definitions of one served connection: requests, scopes, outcomes, replies and jobs.
pub mod Scopes
pub mod Requests
pub mod Passes
pub mod Stats
pub mod Outcomes
pub mod InPlace
pub mod Admitted
pub mod Made
pub mod Jobs
