pub mod MinimalSet
pub mod Incompatible
