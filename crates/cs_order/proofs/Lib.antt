pub mod Keys
pub mod Sorts
pub mod Kept
pub mod Placed
pub mod Enters
pub mod Sets
