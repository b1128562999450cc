pub mod DescendingKeys
pub mod ListPlaces
pub mod Places
pub mod Sets
pub mod Shapes
pub mod Slices
pub mod Trees
