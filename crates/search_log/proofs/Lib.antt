pub mod TrailGrowing
pub mod TrailSteps
