-- The definitions of workloads: users, requests, lines, runs and fixed files.
pub mod Workload
pub mod Runs
pub mod FixedFiles
