pub mod TreeLaws
pub mod Pieces
pub mod Telling
