pub mod Outcomes
pub mod Jobs
pub mod Runs
pub mod Searches
