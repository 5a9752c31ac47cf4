pub mod Violations
pub mod Starts
pub mod Members
