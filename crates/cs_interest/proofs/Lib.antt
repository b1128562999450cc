pub mod Listing
pub mod Narrowing
pub mod Pairs
pub mod Touching
