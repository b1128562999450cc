pub mod Deciding
mod Follows
mod Named
mod Nodes
mod Paths
mod Sets
mod Settled
