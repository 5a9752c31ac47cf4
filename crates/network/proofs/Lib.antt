pub mod Walks
pub mod FaultLaws
pub mod Schedules
pub mod Equal
pub mod Worked
pub mod Squeezed
pub mod Sooner
pub mod Stretches
