pub mod Steps
pub mod Covering
pub mod Filing
pub mod Recorded
pub mod Names
pub mod Verdicts
