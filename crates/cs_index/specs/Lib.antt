pub mod Entries
pub mod Index
pub mod Laws
pub mod Picking
pub mod Referring
pub mod Spreading
pub mod View
