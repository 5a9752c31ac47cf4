pub mod CutOff
pub mod Digits
pub mod Each
pub mod EventBack
pub mod LineBack
pub mod Lined
pub mod Many
pub mod PartsBack
pub mod Spelled
pub mod Suffix
mod Sizes
