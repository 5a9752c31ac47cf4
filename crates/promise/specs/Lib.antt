pub mod Promise
pub mod Kept
