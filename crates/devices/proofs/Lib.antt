pub mod TextLaws
pub mod Endings
pub mod Acts
pub mod Cubes
