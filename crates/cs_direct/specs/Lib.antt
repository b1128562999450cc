pub mod Few
pub mod Follows
pub mod Named
pub mod Paths
