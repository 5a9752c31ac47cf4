pub mod Decides
pub mod Steps
pub mod Truth
pub mod TrailLines
pub mod TrailTrees
