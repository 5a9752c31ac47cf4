pub mod Shrunken
pub mod Apart
