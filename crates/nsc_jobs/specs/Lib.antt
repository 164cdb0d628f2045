-- The definitions of a job list and of its workers.
pub mod Jobs
