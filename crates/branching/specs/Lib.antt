pub mod Subproblem
pub mod BaseView
pub mod Parent
pub mod Path
pub mod Right
pub mod Fates
pub mod Forcing
pub mod Fair
