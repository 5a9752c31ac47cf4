pub mod Text
pub mod Layout
pub mod Reading
