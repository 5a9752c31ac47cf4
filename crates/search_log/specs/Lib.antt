pub mod RightTrail
pub mod Recording
pub mod SearchLog
