pub mod Due
pub mod Right
pub mod TreeNode
pub mod TrailTree
