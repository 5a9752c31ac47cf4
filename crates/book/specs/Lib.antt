pub mod Steps
pub mod State
pub mod Events
pub mod OpenNodes
pub mod Sound
pub mod Views
