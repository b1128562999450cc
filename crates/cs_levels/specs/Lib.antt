pub mod Levels
pub mod Nodes
pub mod Tried
