mod Members
mod Sorting
pub mod Committing
pub mod Joining
pub mod Living
