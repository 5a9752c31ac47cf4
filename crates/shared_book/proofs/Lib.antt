pub mod Rows
pub mod CeilingSteps
