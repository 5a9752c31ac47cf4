pub mod Faults
pub mod Texts
pub mod Runs
pub mod Files
