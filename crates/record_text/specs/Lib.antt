pub mod Kinds
pub mod Tree
pub mod Text
pub mod Rows
pub mod TextFaults
pub mod Reading
pub mod FirstWrong
