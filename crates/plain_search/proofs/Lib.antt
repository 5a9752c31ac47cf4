pub mod Takes
pub mod Outcomes
