pub mod Deadlines
pub mod Ledgers
pub mod Claims
pub mod Premised
pub mod TooMuch
