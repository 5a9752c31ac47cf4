pub mod Desks
pub mod Locking
pub mod Ceiling
