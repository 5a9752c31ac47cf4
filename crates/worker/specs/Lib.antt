pub mod Serving
pub mod Solving
