pub mod Problem
pub mod Schedule
pub mod Verdicts
pub mod Walk
pub mod Faults
pub mod Equality
pub mod Horizon
